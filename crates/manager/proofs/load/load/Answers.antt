use Rattle.std.proofs.Common.{arith, rules}
use Rattle.blocks.specs.Reads.{run}
use Rattle.manager.specs.Manager.{manager_by}
use Rattle.manager.proofs.load.load.Goals as goal

pub returns-in_err-mapping : goal.returns-in_err-mapping
unfolding manager_by run
returns-in_err-mapping c = grind (arith, c.in_err-mapping.was)

pub returns : goal.returns
unfolding manager_by
returns c = search rules
