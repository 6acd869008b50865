use Rattle.report.proofs.StepLaws.{step_then, step_stop}
use Rattle.audit.proofs.listed.audit_block.Goals as goal

pub returns-in_err-audit : goal.returns-in_err-audit
returns-in_err-audit g c = rw (← c.UNMARKED.ensures) (step_stop (c.audit_mark.ensures _ _ _) (λ x. x) _ _ c.in_err-audit.was _ c.from_residual.ensures.1)

pub returns : goal.returns
returns g c = rw (← c.UNMARKED.ensures) (step_then (c.audit_mark.ensures _ _ _) (λ x. x) _ _ c.in_ok-audit.was c.read_block.ensures)
