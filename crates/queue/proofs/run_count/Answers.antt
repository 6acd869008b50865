use Rattle.std.proofs.Common.{rules, sym}
use Rattle.queue.specs.Queue.{run_count}
use Rattle.queue.proofs.Laws.{count_ghost}
use Rattle.queue.proofs.run_count.Goals as goal

pub returns-in-None : goal.returns-in-None
returns-in-None c = λ f. sym (count_ghost f c.args.node.now _ c.in-None.is)

pub returns-in-Some : goal.returns-in-Some
unfolding run_count
returns-in-Some c = λ f. search (rules, c.field_in.ensures f)
