use mathlib.Core.Path.{◌≡◌}
use Prim.Native.Nat.{◌+◌}
use lib.ListN.{length}
use Rattle.std.specs.Slice.Iter.{chunks_rest, chunks_size}
use Rattle.report.specs.Report.{kinds}
use Rattle.block_map.specs.BlockMap.{is_used, count_in}
use Rattle.totals.specs.clauses.Counting.{first_kind, lost_after}
use Rattle.totals.specs.Totals.{is_leaked, lost_from}
use Rattle.totals.proofs.totals_of.Given as goal

-- what is left of the rows counts, after those counted, as all do
abbrev pub invariant-loop-row : goal.invariant-loop-row
invariant-loop-row l = (chunks_size l.row-iterator ≡ 128)
    × (l.at + length (chunks_rest l.row-iterator) ≡ length l.cells)
    × (length l.lost ≡ kinds)
    × (count_in is_used (chunks_rest l.row-iterator) l.used ≡ count_in is_used l.cells 0)
    × (count_in is_leaked (chunks_rest l.row-iterator) l.leaked ≡ count_in is_leaked l.cells 0)
    × (lost_after (chunks_rest l.row-iterator) l.at first_kind l.lost ≡ lost_from l.cells kinds first_kind)
