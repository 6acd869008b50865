use Rattle.std.proofs.Common.{ap, arith}
use Rattle.blocks.specs.Reads.{run}
use Rattle.report.proofs.StepLaws.{stepped_is, left_on, left_err, left_done}
use Rattle.audit.proofs.DeviceLaws.{each_done, each_more, each_first}
use Rattle.audit.proofs.listed.audit_each.Goals as goal

pub returns-in_err-audit : goal.returns-in_err-audit
returns-in_err-audit g c = stepped_is (left_err c.loop-i.invariant c.audit_block.ensures (λ x. x) _ c.in_err-audit.was _ (ap (run _) (each_more _ _ _ _ _ _ _ c.address_at-address.ensures.is c.loop-i-test.true)) _ c.from_residual.ensures.1) (each_first _ _ _ _ _)

pub loop-i-preserved : goal.loop-i-preserved
loop-i-preserved g c = left_on c.loop-i.invariant c.audit_block.ensures _ c.in_ok-audit.was _ (ap (run _) (each_more _ _ _ _ _ _ _ c.address_at-address.ensures.is c.loop-i-test.true)) (omega arith)

pub returns : goal.returns
returns g c = stepped_is (left_done c.loop-i.invariant (each_done _ _ _ _ _ _ c.loop-i-test.false)) (each_first _ _ _ _ _)
