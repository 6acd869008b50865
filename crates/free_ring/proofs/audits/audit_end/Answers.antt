use Rattle.std.proofs.Common.{refl}
use Rattle.blocks.specs.Reads.{run}
use Rattle.report.proofs.StepLaws.{stays_ok, stays_err}
use Rattle.free_ring.specs.FreeRing.{audit_end}
use Rattle.free_ring.proofs.audits.audit_end.Goals as goal

pub returns-in-Tail : goal.returns-in-Tail
unfolding run audit_end
returns-in-Tail c = λ f count map. rw c.in-Tail.is (stays_ok (λ x. x) count map _ refl)

pub returns-in-Again : goal.returns-in-Again
unfolding audit_end
returns-in-Again c = rw c.in-Again.is c.ring_problem.ensures

pub returns-in-Outside : goal.returns-in-Outside
unfolding run audit_end
returns-in-Outside c = λ f count map. rw c.in-Outside.is (stays_err (λ x. x) count map _ refl _ refl)
