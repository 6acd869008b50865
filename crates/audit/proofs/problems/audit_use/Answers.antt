use Rattle.audit.specs.Audit.{audit_use}
use Rattle.report.proofs.StepLaws.{step_then, step_stop}
use Rattle.audit.proofs.problems.audit_use.Goals as goal

pub returns-in_err-audit : goal.returns-in_err-audit
unfolding audit_use
returns-in_err-audit c = step_stop (c.audit_mark.ensures _ _ _) (λ x. x) _ _ c.in_err-audit.was _ c.from_residual.ensures.1

pub returns : goal.returns
unfolding audit_use
returns c = step_then (c.audit_mark.ensures _ _ _) (λ x. x) _ _ c.in_ok-audit.was (rw (← c.used_at-used.ensures) (c.unless.ensures _ _ _))
