use Rattle.std.proofs.Common.{refl}
use Rattle.blocks.specs.Reads.{run}
use Rattle.report.proofs.StepLaws.{step_then, step_stop, stays_ok}
use Rattle.free_ring.specs.FreeRing.{close_ring}
use Rattle.free_ring.proofs.audits.close_ring.Goals as goal

pub returns-in_err-audit : goal.returns-in_err-audit
unfolding close_ring
returns-in_err-audit c = λ f count map. step_stop (c.audit_end.ensures f count map) (λ x. x) _ _ c.in_err-audit.was _ c.from_residual.ensures.1

pub returns : goal.returns
unfolding run close_ring
returns c = λ f count map. rw c.with_ring.ensures (step_then (c.audit_end.ensures f count map) (λ x. x) _ _ c.in_ok-audit.was (stays_ok (λ x. x) count map _ refl))
