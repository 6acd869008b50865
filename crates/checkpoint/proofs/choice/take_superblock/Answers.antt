use Rattle.std.proofs.Common.{◌≡◌, refl, sym, ◌∙◌, ◌+◌, true, false, rules, arith}
use Rattle.blocks.specs.Reads.{run}
use Rattle.blocks.specs.Blocks.{block_of}
use Rattle.checkpoint.specs.Map.{chain}
use Rattle.checkpoint.specs.clauses.InPlace.{loads}
use Rattle.checkpoint.proofs.SearchLaws.{next_inside, take_tries, try_end, try_none, try_here, try_next}
use Rattle.checkpoint.proofs.choice.take_superblock.Goals as goal

pub loop-left-init : goal.loop-left-init
loop-left-init c = sym (take_tries _ _)

pub overflow_add-address : goal.overflow_add-address
overflow_add-address c = record { fits = omega (arith, next_inside _ c.args.geometry _ _ (sym c.next_best.ensures ∙ c.in-Some.is)) }

pub loads-requires : goal.loads-requires
loads-requires c = rw c.of.ensures.of_geometry (omega (arith, next_inside _ c.args.geometry _ _ (sym c.next_best.ensures ∙ c.in-Some.is)))

pub loop-left-preserved : goal.loop-left-preserved
loop-left-preserved c =
    let f = block_of c.args.image.now c.args.geometry.size in
    let loaded : loads (run f (chain c.args.geometry (f (c.args.geometry.base + c.in-Some.best.at)))) ≡ false = search rules in
    sym (try_next _ _ _ _ _ c.if-left-eq0.false (sym c.next_best.ensures ∙ c.in-Some.is) _ refl loaded) ∙ c.loop-left.invariant

pub returns-then-left-eq0 : goal.returns-then-left-eq0
returns-then-left-eq0 c = sym (try_end _ _ _ _ c.if-left-eq0.true) ∙ c.loop-left.invariant

pub returns-in_default : goal.returns-in_default
returns-in_default c = sym (try_none _ _ _ _ (sym c.next_best.ensures ∙ c.in_default.is)) ∙ c.loop-left.invariant

pub returns-then-loads : goal.returns-then-loads
returns-then-loads c =
    let f = block_of c.args.image.now c.args.geometry.size in
    let loaded : loads (run f (chain c.args.geometry (f (c.args.geometry.base + c.in-Some.best.at)))) ≡ true = search rules in
    sym (try_here _ _ _ _ _ c.if-left-eq0.false (sym c.next_best.ensures ∙ c.in-Some.is) _ refl loaded) ∙ c.loop-left.invariant
