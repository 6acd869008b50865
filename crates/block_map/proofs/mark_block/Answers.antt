use Rattle.block_map.specs.BlockMap.{marked}
use Rattle.block_map.proofs.Laws.{updated}
use Rattle.block_map.proofs.mark_block.Goals as goal

pub returns : goal.returns
returns c = updated marked _ _ _ _ _ c.put.ensures c.with_mark.ensures c.cell-x.ensures
