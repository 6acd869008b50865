use Rattle.std.proofs.Common.{arith}
use Rattle.manager.proofs.ListLaws.{number_past}
use Rattle.manager.proofs.addresses.block_entry.Goals as goal

pub returns-in-None : goal.returns-in-None
returns-in-None c = number_past _ _ _ (omega arith)
