use Rattle.report.proofs.StepLaws.{read_then, read_stop}
use Rattle.free_ring.specs.FreeRing.{audit_ring}
use Rattle.free_ring.proofs.audits.audit_ring.Goals as goal

pub returns-in_err-free_next : goal.returns-in_err-free_next
unfolding audit_ring
returns-in_err-free_next c = λ f count map. read_stop _ _ _ (c.free_next.ensures f) _ c.in_err-free_next.was c.from_residual.ensures.1

pub returns : goal.returns
unfolding audit_ring
returns c = λ f count map. read_then _ _ _ (c.free_next.ensures f) _ c.in_ok-free_next.was (c.audit_table.ensures f count map)
