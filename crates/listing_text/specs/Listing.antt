-- The listing of an answer: its lines in the order of document 01's sample.
use Rattle.std.specs.Prelude.{Err, Ok, Result}
use Rattle.blocks.specs.declared.Refusal.{Refusal}
use Rattle.std.specs.Prelude.{ℕ, ◌+◌, ◌%◌, ◌^◌, min, List, [], ◌∷◌, ◌++◌, take, ◌==◌, slice_index_or}
use mathlib.Core.List.{flat_map, flatten}
use Rattle.fields.specs.Choice.{pick}
use Rattle.blocks.specs.Refusals.{number_of}
use Rattle.report.specs.Report.{logged, kinds, overlap_figure}
use Rattle.report.specs.declared.Problem.{Problem}
use Rattle.report.specs.declared.Overlap.{Overlap}
use Rattle.report.specs.declared.OverlapLog.{OverlapLog}
use Rattle.report.specs.declared.Lost.{Lost}
use Rattle.report.specs.declared.Report.{Report}
use Rattle.report.specs.declared.Answer.{Answer}
use Rattle.totals.specs.Totals.{lost_in}
use Rattle.listing_text.specs.Lines.{title_line, pool_line, problem_line, bitmaps_line, overlaps_line, claimant_line, overlap_line, lost_line, lost_kind_line, leaked_line, result_line, refused_line}

-- "the first ten problems", "overlaps and the first ten": those that a log names, of all that were met
abbrev pub named : {A : Type 0} → ℕ → List A → List A
named total first = take (min total logged) first

abbrev pub problem_line_of : Problem → List (List ℕ)
problem_line_of p = problem_line p.kind p.block

abbrev pub overlap_line_of : Overlap → List (List ℕ)
overlap_line_of o = overlap_line o.block o.owner o.claimant

-- a kind that came second in overlaps, and in how many
pub record Claimant : Type 0 where
  pub kind : ℕ
  pub count : ℕ

-- document 02: "a line for each kind with a nonzero count, in kind order": those of counts in a row, the first of which is a kind's
unfoldable pub claimant_if : ℕ → ℕ → List Claimant
claimant_if kind count = pick (count == 0) [] (record { kind = kind; count = count } ∷ [])

unfoldable pub claimants_from : ℕ → List ℕ → List Claimant
claimants_from kind [] = []
claimants_from kind (n ∷ ns) = claimant_if kind n ++ claimants_from (kind + 1) ns

-- of all kinds, which count from 1. Their counts add up to the total printed above them, in the listing of every answer of the
-- check (listing/proofs/Total.antt).
abbrev pub claimants_of : OverlapLog → List Claimant
claimants_of l = claimants_from 1 (take kinds l.claimants)

abbrev pub claimant_line_of : Claimant → List (List ℕ)
claimant_line_of c = claimant_line c.kind c.count

-- "lost lines are the Rust's": in the order of the kinds' names, by their places in a report
unfoldable pub places_by_name : List ℕ
places_by_name = 2 ∷ 1 ∷ 0 ∷ 9 ∷ 8 ∷ 3 ∷ 4 ∷ 5 ∷ 6 ∷ 10 ∷ 7 ∷ []

-- the blocks that the kind at a place lost
abbrev pub lost_at : List Lost → ℕ → Lost
lost_at lost place = slice_index_or lost place (record { count = 0; first = 0 })

-- and only of kinds that lost a block; kinds count from 1, places from 0
unfoldable pub lost_kind_line_of : List Lost → ℕ → List (List ℕ)
lost_kind_line_of lost place = pick ((lost_at lost place).count == 0) [] (lost_kind_line (place + 1) (lost_at lost place).count (lost_at lost place).first)

-- the lost blocks of all kinds; in a pass's report their sum is below 2^64, and so printed as it is (listing/proofs/Total.antt)
abbrev pub lost_total : List Lost → ℕ
lost_total lost = lost_in lost 0 % 2 ^ 64

unfoldable pub report_lines : Report → List (List ℕ)
report_lines r =
    title_line r.xid
    ++ pool_line r.pool_used r.pool_unused r.problems.total
    ++ flat_map problem_line_of (named r.problems.total r.problems.first)
    ++ bitmaps_line r.free r.wrong_chunks r.device_free
    ++ overlaps_line (overlap_figure r.overlaps)
    ++ flat_map claimant_line_of (claimants_of r.overlaps)
    ++ flat_map overlap_line_of (named (overlap_figure r.overlaps) r.overlaps.first)
    ++ lost_line (lost_total r.lost)
    ++ flat_map (lost_kind_line_of r.lost) places_by_name
    ++ leaked_line r.leaked
    ++ result_line r.verdict

unfoldable pub answer_lines : Result (Unit {0}) Refusal → Report → List (List ℕ)
answer_lines (Ok tt) report = report_lines report
answer_lines (Err r) report = refused_line (number_of r)

-- the bytes printed
unfoldable pub listing_of : Answer → List ℕ
listing_of a = flatten (answer_lines a.ending a.report)
