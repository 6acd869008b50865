use Rattle.blocks.specs.Blocks.{block_of}
use Rattle.pool.specs.clauses.Load.{places}
use Rattle.free_ring.specs.clauses.Sets.{SetOf}
use Rattle.free_ring.proofs.sets.in_use.Given as goal

abbrev pub invariant-loop-k : goal.invariant-loop-k
invariant-loop-k l = SetOf l.bits (places (block_of l.image l.container.size) l.container.size l.place l.k)
