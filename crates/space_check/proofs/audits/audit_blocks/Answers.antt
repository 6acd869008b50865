use Rattle.space_check.specs.Check.{audit_blocks}
use Rattle.report.proofs.StepLaws.{step_then, step_stop}
use Rattle.space_check.proofs.audits.audit_blocks.Goals as goal

pub returns-in_err-audit : goal.returns-in_err-audit
unfolding audit_blocks
returns-in_err-audit c = step_stop c.audit_device.ensures _ _ _ c.in_err-audit.was _ c.from_residual.ensures.1

pub returns : goal.returns
unfolding audit_blocks
returns c = step_then c.audit_device.ensures _ _ _ c.in_ok-audit.was (rw c.u64_of.ensures.is at c.audit_queue.ensures)
