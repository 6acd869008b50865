use Prim.Native.Nat.{◌-◌, ◌%◌, ◌≤◌}
use mathlib.Core.Path.{◌≡◌}
use lib.ListN.{drop}
use Rattle.fletcher.specs.Fletcher.{fletcher, checksum}
use Rattle.manager.specs.clauses.Place.{bytes_of}
use Rattle.manager.proofs.load.sums_of.Given as goal

abbrev pub invariant-loop-pos : goal.invariant-loop-pos
invariant-loop-pos l = (l.pos ≤ l.manager.size)
    × (l.pos % 4 ≡ 0)
    × (fletcher (drop l.pos (bytes_of l.image l.container.size l.manager)) l.sums.s l.sums.t ≡ checksum (bytes_of l.image l.container.size l.manager))

abbrev pub decreases-loop-pos : goal.decreases-loop-pos
decreases-loop-pos l = l.manager.size - l.pos
