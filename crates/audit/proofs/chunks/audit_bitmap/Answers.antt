use Rattle.report.proofs.StepLaws.{step_then, step_stop}
use Rattle.audit.specs.Audit.{audit_bitmap}
use Rattle.audit.proofs.chunks.audit_bitmap.Goals as goal

pub returns-in_err-audit : goal.returns-in_err-audit
unfolding audit_bitmap
returns-in_err-audit c = step_stop c.audit_use.ensures (λ x. x) _ _ c.in_err-audit.was _ c.from_residual.ensures.1

pub returns : goal.returns
unfolding audit_bitmap
returns c = step_then c.audit_use.ensures (λ x. x) _ _ c.in_ok-audit.was c.read_bitmap.ensures
