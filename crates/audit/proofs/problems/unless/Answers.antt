use Rattle.std.proofs.Common.{refl}
use Rattle.blocks.specs.Reads.{run}
use Rattle.report.proofs.StepLaws.{stepped_is, stays_ok, read_then, read_stop}
use Rattle.audit.proofs.Laws.{unless_holds, unless_fails}
use Rattle.audit.proofs.problems.unless.Goals as goal

pub returns-then-ok : goal.returns-then-ok
unfolding run
returns-then-ok c = λ f count map. stepped_is (stays_ok (λ x. x) count map _ refl) (unless_holds _ _ _ _ c.if-ok.true)

pub returns-in_err-problems : goal.returns-in_err-problems
returns-in_err-problems c = λ f count map. stepped_is (read_stop _ _ _ (c.add_problem.ensures f) _ c.in_err-problems.was c.from_residual.ensures.1) (unless_fails _ _ _ _ c.if-ok.false)

pub returns : goal.returns
unfolding run
returns c = λ f count map. rw c.with_problems.ensures (stepped_is (read_then _ _ _ (c.add_problem.ensures f) _ c.in_ok-problems.was (stays_ok (λ x. x) count map _ refl)) (unless_fails _ _ _ _ c.if-ok.false))
