use Rattle.interface.specs.clauses.Stored.{lost_number, stored}
use lib.Seq.{slice}
use Prim.Native.Nat.{◌+◌, ◌-◌, ◌≤◌}
use mathlib.Core.Path.{◌≡◌}
use mathlib.Core.List.{map}
use Rattle.interface.proofs.figures.put_numbers.Given as goal

abbrev pub invariant-loop-i : goal.invariant-loop-i
invariant-loop-i l = (l.from ≤ l.i) × (l.i ≤ l.to) × (stored l.figures (l.at + (l.i - l.from)) (map (lost_number l.first) (slice l.i l.to l.lost)) ≡ stored l.initial.figures l.at (map (lost_number l.first) (slice l.from l.to l.lost)))

abbrev pub decreases-loop-i : goal.decreases-loop-i
decreases-loop-i l = l.to - l.i
