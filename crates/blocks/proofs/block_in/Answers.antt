use native.Mathlib.Omega.{arith}
use Rattle.blocks.specs.Blocks.{block_of}
use Rattle.blocks.proofs.Laws.{half_product}
use Rattle.blocks.proofs.block_in.Goals as goal

pub returns : goal.returns
unfolding block_of
returns c = c.part_of.ensures
