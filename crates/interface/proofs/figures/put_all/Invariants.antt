use mathlib.Core.Path.{◌≡◌}
use Prim.Native.Nat.{◌+◌}
use lib.ListN.{drop}
use Rattle.interface.specs.clauses.Stored.{stored}
use Rattle.interface.proofs.figures.put_all.Given as goal

abbrev pub invariant-loop-i : goal.invariant-loop-i
invariant-loop-i l = stored l.figures (l.at + l.i) (drop l.i l.xs) ≡ stored l.initial.figures l.at l.xs
