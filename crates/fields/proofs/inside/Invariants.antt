use Rattle.fields.specs.clauses.Numbers.{NumberAt}
use Prim.Native.Nat.{◌-◌, ◌≤◌}
use Rattle.fields.proofs.inside.Given as goal

abbrev pub invariant-loop-k : goal.invariant-loop-k
invariant-loop-k l = (l.k ≤ l.width) × NumberAt l.k l.bytes l.at l.v

abbrev pub decreases-loop-k : goal.decreases-loop-k
decreases-loop-k l = l.width - l.k
