use Rattle.std.proofs.Common.{arith}
use Rattle.blocks.specs.Reads.{run}
use Rattle.queue.specs.Queue.{node_by}
use Rattle.queue.proofs.node_by.Goals as goal

pub returns-in_err-mapping : goal.returns-in_err-mapping
unfolding node_by run
returns-in_err-mapping c = grind (arith, c.in_err-mapping.was)

pub returns : goal.returns
unfolding node_by
returns c = grind (arith, c.in_ok-mapping.was)
