use Rattle.std.proofs.Common.{rules, ap}
use Rattle.blocks.specs.Reads.{run, given}
use Rattle.blocks.proofs.Laws.{at_err, at_ok}
use Rattle.report.specs.Report.{add_problem}
use Rattle.report.proofs.Laws.{note_room, note_full}
use Rattle.report.proofs.logs.add_problem.Goals as goal

pub returns-in_err-total : goal.returns-in_err-total
unfolding add_problem
returns-in_err-total c = λ f. search (rules, at_err, c.add.ensures f, c.in_err-total.was)

pub returns-then-problems : goal.returns-then-problems
unfolding add_problem run
returns-then-problems c = λ f. at_ok _ _ f _ (c.add.ensures f) _ _ c.in_ok-total.was _ (rw (note_room _ _ _ c.if-problems.true))

pub returns-else-problems : goal.returns-else-problems
unfolding add_problem run
returns-else-problems c = λ f. at_ok _ _ f _ (c.add.ensures f) _ _ c.in_ok-total.was _ (rw (note_full _ _ _ c.if-problems.false))
