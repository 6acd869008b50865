use Rattle.free_ring.proofs.AuditLaws.{visited_all, visiting_stop, visiting_on}
use Rattle.free_ring.proofs.audits.audit_visited.Goals as goal

pub returns-in_err-audit : goal.returns-in_err-audit
returns-in_err-audit c = visiting_stop _ _ _ _ _ _ _ _ _ c.loop.invariant c.loop-test.true _ c.bit_at.ensures _ c.audit_index.ensures _ c.in_err-audit.was _ c.from_residual.ensures.1

pub loop-preserved : goal.loop-preserved
loop-preserved c = visiting_on _ _ _ _ _ _ _ _ _ c.loop.invariant c.loop-test.true _ c.bit_at.ensures _ c.audit_index.ensures _ _ c.in_ok-audit.was c.next_index-i.ensures

pub returns : goal.returns
returns c = visited_all _ _ _ _ _ _ _ _ _ c.loop.invariant c.loop-test.false
