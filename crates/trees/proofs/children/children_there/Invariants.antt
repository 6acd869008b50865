use Prim.Native.Nat.{ℕ, ◌-◌}
use mathlib.Core.List.{List, []}
use mathlib.Core.Path.{◌≡◌}
use Rattle.trees.specs.clauses.Walks.{pointers_down}
use Rattle.trees.proofs.WalkLaws.{children_left}
use Rattle.trees.proofs.children.children_there.Given as goal

abbrev pub invariant-loop-i : goal.invariant-loop-i
invariant-loop-i l = (f : ℕ → List ℕ) → children_left f l.description l.node (l.i-end - l.i) l.i (pointers_down l.description l.node l.i) ≡ children_left f l.description l.node l.i-end 0 []
