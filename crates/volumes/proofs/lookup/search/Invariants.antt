use Rattle.volumes.proofs.LookupLaws.{Searching}
use Prim.Native.Nat.{◌-◌}
use Rattle.volumes.proofs.lookup.search.Given as goal

abbrev pub invariant-loop-lo : goal.invariant-loop-lo
invariant-loop-lo l = Searching l.description l.id l.xid l.node l.lo l.hi

abbrev pub decreases-loop-lo : goal.decreases-loop-lo
decreases-loop-lo l = l.hi - l.lo
