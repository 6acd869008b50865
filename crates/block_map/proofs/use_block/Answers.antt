use Rattle.block_map.specs.BlockMap.{used}
use Rattle.block_map.proofs.Laws.{updated}
use Rattle.block_map.proofs.use_block.Goals as goal

pub returns : goal.returns
returns c = updated used _ _ _ _ _ c.put.ensures c.with_use.ensures c.cell-x.ensures
