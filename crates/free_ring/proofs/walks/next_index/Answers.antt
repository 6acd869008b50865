use Rattle.std.proofs.Common.{arith}
use Rattle.free_ring.proofs.WalkLaws.{entry_past_table, entry_of_table}
use Rattle.free_ring.proofs.walks.next_index.Goals as goal

pub returns-then-list-index : goal.returns-then-list-index
returns-then-list-index c = entry_past_table _ _ _ _ c.if-list-index.true

pub returns : goal.returns
returns c = entry_of_table _ _ _ _ _ (omega arith) c.index_at.ensures
