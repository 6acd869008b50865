use Rattle.std.proofs.Common.{◌≡◌}
use Rattle.blocks.specs.Reads.{run}
use Rattle.blocks.specs.Blocks.{block_of}
use Rattle.checkpoint.specs.Checkpoint.{take_superblock}
use Rattle.checkpoint.proofs.SearchLaws.{try_left}
use Rattle.checkpoint.proofs.choice.take_superblock.Given as goal

abbrev pub invariant-loop-left : goal.invariant-loop-left
invariant-loop-left l = let f = block_of l.image l.geometry.size in try_left f l.geometry l.left l.last ≡ run f (take_superblock l.geometry)

abbrev pub decreases-loop-left : goal.decreases-loop-left
decreases-loop-left l = l.left
