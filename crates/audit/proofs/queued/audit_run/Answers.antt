use Rattle.std.proofs.Common.{ap, arith}
use Rattle.blocks.specs.Reads.{run}
use Rattle.report.proofs.StepLaws.{left_on, left_err, left_done}
use Rattle.audit.proofs.QueuedLaws.{queued_done, queued_more}
use Rattle.audit.proofs.queued.audit_run.Goals as goal

pub returns-in_err-audit : goal.returns-in_err-audit
returns-in_err-audit c = left_err c.loop-block.invariant c.audit_block.ensures (λ x. x) _ c.in_err-audit.was _ (ap (run _) (queued_more _ _ _ _ _ c.loop-block-test.true)) _ c.from_residual.ensures.1

pub loop-block-preserved : goal.loop-block-preserved
loop-block-preserved c = left_on c.loop-block.invariant c.audit_block.ensures _ c.in_ok-audit.was _ (ap (run _) (queued_more _ _ _ _ _ c.loop-block-test.true)) (omega arith)

pub returns : goal.returns
returns c = left_done c.loop-block.invariant (queued_done _ _ _ _ _ c.loop-block-test.false)
