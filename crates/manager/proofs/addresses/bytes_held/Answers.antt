use Rattle.manager.proofs.Laws.{placed_length}
use Rattle.manager.proofs.addresses.bytes_held.Goals as goal

pub returns-in-InManager : goal.returns-in-InManager
returns-in-InManager c = rw (c.in-InManager.is, placed_length)
