use Rattle.space_check.specs.Check.{claims}
use Rattle.report.proofs.StepLaws.{step_then, step_stop}
use Rattle.space_check.proofs.audits.claim_all.Goals as goal

pub returns-in_err-log : goal.returns-in_err-log
unfolding claims
returns-in_err-log c = step_stop (rw c.no_overlaps-none.ensures at c.claim_areas.ensures) _ _ _ c.in_err-log.was _ c.from_residual.ensures.1

pub returns : goal.returns
unfolding claims
returns c = step_then (rw c.no_overlaps-none.ensures at c.claim_areas.ensures) _ _ _ c.in_ok-log.was c.claim_trees.ensures
