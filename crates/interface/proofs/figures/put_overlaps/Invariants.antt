use mathlib.Core.List.{flat_map}
use mathlib.Core.Path.{◌≡◌}
use Prim.Native.Nat.{◌+◌, ◌*◌}
use lib.ListN.{drop}
use Rattle.interface.specs.Figures.{overlap_figures}
use Rattle.interface.specs.clauses.Stored.{stored}
use Rattle.interface.proofs.figures.put_overlaps.Given as goal

abbrev pub invariant-loop-i : goal.invariant-loop-i
invariant-loop-i l = stored l.figures (l.at + 3 * l.i) (flat_map overlap_figures (drop l.i l.fn.overlaps)) ≡ stored l.initial.figures l.at (flat_map overlap_figures l.fn.overlaps)
