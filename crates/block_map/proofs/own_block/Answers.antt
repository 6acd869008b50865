use Prim.Native.Nat.{◌%◌}
use Rattle.block_map.specs.BlockMap.{owned_by}
use Rattle.block_map.proofs.Laws.{updated}
use Rattle.block_map.proofs.own_block.Goals as goal

pub returns : goal.returns
returns c = updated (owned_by (_ % 16)) _ _ _ _ _ c.put.ensures c.with_owner.ensures c.cell-x.ensures
