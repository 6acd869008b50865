use Rattle.report.proofs.StepLaws.{read_then, read_stop}
use Rattle.free_ring.specs.FreeRing.{ring_problem}
use Rattle.free_ring.proofs.audits.ring_problem.Goals as goal

pub returns-in_err-add : goal.returns-in_err-add
unfolding ring_problem
returns-in_err-add c = λ f count map. read_stop _ _ _ (c.add.ensures f) _ c.in_err-add.was c.from_residual.ensures.1

pub returns : goal.returns
unfolding ring_problem
returns c = λ f count map. read_then _ _ _ (c.add.ensures f) _ c.in_ok-add.was (c.unless.ensures f count map)
