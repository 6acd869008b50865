use Rattle.pool.proofs.Laws.{Counted}
use Rattle.pool.specs.clauses.Place.{pool_in}
use Rattle.blocks.specs.Blocks.{block_of}
use Rattle.pool.proofs.unused.Given as goal

abbrev pub invariant-loop-i : goal.invariant-loop-i
invariant-loop-i l = Counted l.container (pool_in (block_of l.image l.container.size) l.container.size l.pool) l.map 0 l.pool.blocks 0 l.i l.n
