use Rattle.space_check.specs.Check.{audit_and_claim}
use Rattle.report.proofs.StepLaws.{step_then, step_stop}
use Rattle.space_check.proofs.reports.audit_and_claim.Goals as goal

pub returns-in_err-audit : goal.returns-in_err-audit
unfolding audit_and_claim
returns-in_err-audit c = step_stop c.audit_all.ensures _ _ _ c.in_err-audit.was _ c.from_residual.ensures.1

pub returns : goal.returns
unfolding audit_and_claim
returns c = step_then c.audit_all.ensures _ _ _ c.in_ok-audit.was c.claim_and_report.ensures
