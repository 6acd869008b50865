use Rattle.std.proofs.Common.{suc, ◌-◌}
use Rattle.manager.specs.clauses.Place.{bytes_of}
use Rattle.manager.specs.clauses.Lists.{values}
use Rattle.free_ring.proofs.WalkLaws.{Walking}
use Rattle.free_ring.proofs.walks.walk.Given as goal

abbrev pub invariant-loop-i : goal.invariant-loop-i
invariant-loop-i l = Walking (values 2 (bytes_of l.image l.container.size l.manager) l.list.blocks l.list.table) l.list.blocks l.list.head l.list.tail l.seen l.i l.count

abbrev pub decreases-loop-i : goal.decreases-loop-i
decreases-loop-i l = suc (l.list.blocks - l.count)
