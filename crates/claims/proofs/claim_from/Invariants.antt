use mathlib.Core.List.{List}
use Prim.Native.Nat.{ℕ, ◌≤◌}
use Rattle.report.proofs.StepLaws.{Left}
use Rattle.claims.specs.clauses.Answers.{owned, blocks_left, end_of}
use Rattle.claims.proofs.claim_from.Given as goal

abbrev pub invariant-loop-at : goal.invariant-loop-at
invariant-loop-at l = let a = l.fn in (count : ℕ) → end_of a.from ≤ count → (f : ℕ → List ℕ) → Left f count a.from l.at (owned a.map a.log) (owned l.map l.log) (blocks_left l.kind)

abbrev pub decreases-loop-at : goal.decreases-loop-at
decreases-loop-at l = l.at.left
