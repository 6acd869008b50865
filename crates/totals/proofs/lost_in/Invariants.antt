use mathlib.Core.Path.{◌≡◌}
use Prim.Native.Nat.{◌+◌}
use lib.ListN.{length, drop}
use Rattle.report.specs.Report.{kinds}
use Rattle.totals.specs.clauses.Counting.{first_kind, lost_after}
use Rattle.totals.proofs.lost_in.Given as goal

abbrev pub invariant-loop-i : goal.invariant-loop-i
invariant-loop-i l = (length l.lost ≡ kinds) × (lost_after (drop l.i l.row) (l.start + l.i) first_kind l.lost ≡ lost_after l.row l.start first_kind l.initial.lost)
