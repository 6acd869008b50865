use Rattle.std.proofs.Common.{arith}
use Rattle.manager.proofs.Laws.{placed_length}
use Rattle.manager.proofs.ListLaws.{number_past}
use Rattle.manager.proofs.lists.entry.Goals as goal

pub returns-in-None : goal.returns-in-None
returns-in-None c = number_past _ _ _ (rw placed_length (omega arith))
