use mathlib.Core.Path.{refl}
use borrow.Author.Tests.{eq-eqb, ne_eqb}
use Rattle.blocks.specs.Reads.{run}
use Rattle.report.proofs.StepLaws.{read_stop, read_then, stays_ok}
use Rattle.volumes.specs.clauses.Answers.{claim_again}
use Rattle.volumes.proofs.own_trees.claim_place.Goals as goal

pub returns-then-id-eq0 : goal.returns-then-id-eq0
unfolding run claim_again
returns-then-id-eq0 c = stays_ok _ _ _ _ (rw (eq-eqb _ 0 c.if-id-eq0.true) refl)

pub returns-in_err-at : goal.returns-in_err-at
unfolding claim_again
returns-in_err-at c = rw (ne_eqb _ 0 c.if-id-eq0.false) (read_stop _ _ _ c.address_for.ensures _ c.in_err-at.was c.from_residual.ensures.1)

pub returns : goal.returns
unfolding claim_again
returns c = rw (ne_eqb _ 0 c.if-id-eq0.false) (read_then _ _ _ c.address_for.ensures _ c.in_ok-at.was (rw c.block-volume.ensures at c.claim_volume.ensures))
