use mathlib.Core.List.{flat_map}
use mathlib.Core.Path.{◌≡◌}
use Prim.Native.Nat.{◌+◌, ◌*◌}
use lib.ListN.{drop}
use Rattle.interface.specs.Figures.{problem_figures}
use Rattle.interface.specs.clauses.Stored.{stored}
use Rattle.interface.proofs.figures.put_problems.Given as goal

abbrev pub invariant-loop-i : goal.invariant-loop-i
invariant-loop-i l = stored l.figures (l.at + 2 * l.i) (flat_map problem_figures (drop l.i l.fn.problems)) ≡ stored l.initial.figures l.at (flat_map problem_figures l.fn.problems)
