use Rattle.std.proofs.Common.{refl}
use Rattle.blocks.specs.Reads.{done, run}
use Rattle.report.proofs.StepLaws.{step_then, step_stop, stays_ok}
use Rattle.audit.specs.Audit.{audit_queued_block}
use Rattle.audit.proofs.Laws.{entered}
use Rattle.audit.proofs.queued.audit_block.Goals as goal

pub returns-in_err-audit : goal.returns-in_err-audit
unfolding audit_queued_block
returns-in_err-audit c = step_stop c.audit_use.ensures (λ x. x) _ _ c.in_err-audit.was _ c.from_residual.ensures.1

pub returns : goal.returns
unfolding audit_queued_block run
returns c = step_then c.audit_use.ensures (λ x. x) _ _ c.in_ok-audit.was (entered done (stays_ok (λ x. x) _ _ _ refl) c.use_block.ensures c.requires)
