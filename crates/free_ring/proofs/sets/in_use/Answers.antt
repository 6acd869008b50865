use Rattle.std.proofs.Common.{rules}
use Rattle.free_ring.proofs.WalkLaws.{filled_none, filled_more}
use Rattle.free_ring.proofs.sets.in_use.Goals as goal

pub loop-k-init : goal.loop-k-init
loop-k-init c = filled_none _ _ _ (search rules)

pub loop-k-preserved : goal.loop-k-preserved
loop-k-preserved c = filled_more _ _ _ _ _ _ c.loop-k.invariant c.index_at-index.ensures c.set_bit.ensures
