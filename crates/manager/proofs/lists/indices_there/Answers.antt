use Rattle.manager.proofs.Laws.{placed_length}
use Rattle.manager.proofs.lists.indices_there.Goals as goal

pub returns : goal.returns
returns c = rw (← c.u32_of-count.ensures.is, ← c.u32_of-at.ensures.is) (c.list_there.ensures _ (placed_length _ _ _))
