use native.Mathlib.Omega.{arith}
use mathlib.Core.Path.{refl, sym, ◌∙◌}
use Rattle.blocks.specs.Reads.{no_blocks}
use Rattle.blocks.proofs.Laws.{is_given, is_refused}
use Rattle.block_map.proofs.Laws.{not_made}
use Rattle.claims.specs.Claims.{claim}
use Rattle.claims.specs.clauses.Unlogged.{unlogged_claim}
use Rattle.claims.proofs.UnloggedLaws.{all_made, made_then}
use Rattle.claims.proofs.unlogged.claim_unlogged.Goals as goal

pub returns-in_default : goal.returns-in_default
unfolding unlogged_claim
returns-in_default c = (rw (is_refused _ _ no_blocks _ (c.add.ensures no_blocks) _ c.in_default.is) refl, λ f. not_made)

pub returns-then-not-takes_all : goal.returns-then-not-takes_all
unfolding unlogged_claim
returns-then-not-takes_all c = (rw (is_given _ _ no_blocks _ (c.add.ensures no_blocks) _ c.in-Ok.is, ← c.min-end.ensures, ← c.takes_all.ensures, c.if-not-takes_all.true) refl, λ f. not_made)

pub returns : goal.returns
unfolding claim unlogged_claim
returns c =
    let taken = sym c.takes_all.ensures ∙ c.if-not-takes_all.false in
    let made = all_made c.args.container.count _ c.args.start _ _ _ (omega (arith, c.min-end.ensures)) c.requires taken c.own_all.ensures in
    (rw (is_given _ _ no_blocks _ (c.add.ensures no_blocks) _ c.in-Ok.is, ← c.min-end.ensures, taken) refl, λ f. made_then _ _ _ c.add.ensures _ c.in-Ok.is (rw (← c.min-end.ensures) (made f)))
