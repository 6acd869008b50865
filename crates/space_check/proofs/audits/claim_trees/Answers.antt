use Rattle.space_check.specs.Check.{claim_trees}
use Rattle.report.proofs.StepLaws.{step_then, step_stop}
use Rattle.space_check.proofs.audits.claim_trees.Goals as goal

pub returns-in_err-log : goal.returns-in_err-log
unfolding claim_trees
returns-in_err-log c = step_stop c.claim_objects.ensures _ _ _ c.in_err-log.was _ c.from_residual.ensures.1

pub returns : goal.returns
unfolding claim_trees
returns c = step_then c.claim_objects.ensures _ _ _ c.in_ok-log.was (rw c.u64_of.ensures.is at c.claim_queue.ensures)
