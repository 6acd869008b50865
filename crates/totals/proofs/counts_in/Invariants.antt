use mathlib.Core.Path.{◌≡◌}
use Prim.Native.Nat.{◌≤◌}
use lib.ListN.{drop}
use Rattle.block_map.specs.BlockMap.{is_used, count_in}
use Rattle.block_map.specs.clauses.Rows.{greatest_in}
use Rattle.totals.specs.clauses.Counting.{lost_kind}
use Rattle.totals.specs.Totals.{is_leaked}
use Rattle.totals.proofs.counts_in.Given as goal

abbrev pub invariant-loop-byte : goal.invariant-loop-byte
invariant-loop-byte l = (l.used ≤ l.byte-index)
    × (l.leaked ≤ l.byte-index)
    × (count_in is_used (drop l.byte-index l.row) l.used ≡ count_in is_used l.row 0)
    × (count_in is_leaked (drop l.byte-index l.row) l.leaked ≡ count_in is_leaked l.row 0)
    × (greatest_in lost_kind (drop l.byte-index l.row) l.lost ≡ greatest_in lost_kind l.row 0)
