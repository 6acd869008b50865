use Rattle.std.proofs.Common.{refl}
use Rattle.blocks.specs.Reads.{run}
use Rattle.report.proofs.StepLaws.{stays_ok}
use Rattle.free_ring.specs.FreeRing.{audit_index}
use Rattle.free_ring.proofs.audits.audit_index.Goals as goal

pub returns-then-not-used : goal.returns-then-not-used
unfolding run audit_index
returns-then-not-used c = λ f count map. rw c.if-not-used.true (stays_ok (λ x. x) count map _ refl)

pub returns : goal.returns
unfolding audit_index
returns c = rw c.if-not-used.false c.ring_problem.ensures
