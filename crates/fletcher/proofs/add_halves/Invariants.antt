use mathlib.Core.Path.{◌≡◌}
use Prim.Native.Nat.{◌-◌, ◌%◌, ◌≤◌}
use lib.ListN.{length}
use Rattle.fletcher.proofs.Laws.{Half, none}
use Rattle.fletcher.proofs.add_halves.Given as goal

abbrev pub invariant-loop-at : goal.invariant-loop-at
invariant-loop-at l = (l.at ≤ length l.first) × (l.at % 8 ≡ 0) × Half l.first l.at l.initial.a l.a × Half l.second l.at none l.b

abbrev pub decreases-loop-at : goal.decreases-loop-at
decreases-loop-at l = length l.first - l.at
