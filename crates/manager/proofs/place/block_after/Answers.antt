use Rattle.std.proofs.Common.{arith}
use Rattle.manager.proofs.Laws.{block_past}
use Rattle.manager.proofs.place.block_after.Goals as goal

pub returns-in-None : goal.returns-in-None
returns-in-None c = block_past _ _ _ (omega arith)
