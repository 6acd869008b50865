use Rattle.report.proofs.StepLaws.{read_then, read_stop}
use Rattle.free_ring.specs.FreeRing.{audit_table}
use Rattle.free_ring.proofs.audits.audit_table.Goals as goal

pub returns-in_err-pool_indices : goal.returns-in_err-pool_indices
unfolding audit_table
returns-in_err-pool_indices c = λ f count map. read_stop _ _ _ (c.pool_indices.ensures f) _ c.in_err-pool_indices.was c.from_residual.ensures.1

pub returns : goal.returns
unfolding audit_table
returns c = λ f count map. read_then _ _ _ (c.pool_indices.ensures f) _ c.in_ok-pool_indices.was (rw (c.pool_place-place.ensures, c.free_list-list.ensures.0) at (c.audit_free.ensures f count map))
