use Rattle.std.proofs.Common.{rules}
use Rattle.blocks.specs.Reads.{run}
use Rattle.blocks.proofs.Laws.{at_ok, at_err}
use Rattle.queue.specs.Queue.{run_of}
use Rattle.queue.proofs.run_of.Goals as goal

pub returns-in_err-start : goal.returns-in_err-start
unfolding run_of
returns-in_err-start c = λ f. search (rules, at_err, c.field_in.ensures f, c.in_err-start.was)

pub returns-in_err-count : goal.returns-in_err-count
unfolding run_of
returns-in_err-count c = λ f. search (rules, at_ok, at_err, c.field_in.ensures f, c.in_ok-start.was, c.run_count.ensures f, c.in_err-count.was)

pub returns : goal.returns
unfolding run_of run
returns c = λ f. search (rules, at_ok, c.field_in.ensures f, c.in_ok-start.was, c.run_count.ensures f, c.in_ok-count.was)
