use Rattle.blocks.specs.Blocks.{block_of}
use Rattle.manager.proofs.LoadLaws.{Left}
use Rattle.pool.specs.clauses.Place.{bitmap_block}
use Rattle.pool.specs.clauses.Load.{read_bitmap}
use Rattle.pool.proofs.bitmaps_there.Given as goal

abbrev pub invariant-loop-i : goal.invariant-loop-i
invariant-loop-i l = let f = block_of l.image l.container.size in Left f (read_bitmap f l.container l.pool) (bitmap_block f l.container.size l.pool) l.bitmaps l.i
