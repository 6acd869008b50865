use mathlib.Core.Path.{refl}
use Rattle.blocks.specs.Reads.{no_blocks}
use Rattle.blocks.proofs.Laws.{is_given, is_refused}
use Rattle.block_map.proofs.Laws.{not_made}
use Rattle.claims.specs.Claims.{claim_queued}
use Rattle.claims.specs.clauses.Unlogged.{unlogged_queued}
use Rattle.claims.proofs.UnloggedLaws.{made_then}
use Rattle.claims.proofs.unlogged.claim_queued.Goals as goal

pub returns-in_default : goal.returns-in_default
unfolding unlogged_queued
returns-in_default c = (rw (is_refused _ _ no_blocks _ (c.run_of.ensures no_blocks) _ c.in_default.is) refl, λ f. not_made)

pub returns : goal.returns
unfolding claim_queued unlogged_queued
returns c = (rw (is_given _ _ no_blocks _ (c.run_of.ensures no_blocks) _ c.in-Ok.is) c.claim_unlogged.ensures.0, λ f. made_then _ _ _ c.run_of.ensures _ c.in-Ok.is (c.claim_unlogged.ensures.1 f))
