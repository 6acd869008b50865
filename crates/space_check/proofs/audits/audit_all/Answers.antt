use Rattle.space_check.specs.Check.{audit}
use Rattle.report.proofs.StepLaws.{step_then, step_stop}
use Rattle.space_check.proofs.audits.audit_all.Goals as goal

pub returns-in_err-audit : goal.returns-in_err-audit
unfolding audit
returns-in_err-audit c = step_stop ((rw c.nothing_audited-none.ensures at c.audit_ring.ensures) _ _ _) _ _ _ c.in_err-audit.was _ c.from_residual.ensures.1

pub returns : goal.returns
unfolding audit
returns c = step_then ((rw c.nothing_audited-none.ensures at c.audit_ring.ensures) _ _ _) _ _ _ c.in_ok-audit.was c.audit_blocks.ensures
