-- An answer as numbers in a row, the form in which it crosses to C: those of the base, then what came later.
use mathlib.Core.List.{List, [], ◌∷◌, ◌++◌, map, flat_map, flatten}
use Rattle.std.specs.Prelude.{ℕ, length, take, drop}
use Rattle.std.proofs.Math.Seq.{slice}
use Rattle.report.specs.Report.{overlap_figure, kinds, ending_number}
use Rattle.report.specs.declared.Answer.{Answer}
use Rattle.report.specs.declared.Lost.{Lost}
use Rattle.report.specs.declared.Overlap.{Overlap}
use Rattle.report.specs.declared.Problem.{Problem}
use Rattle.report.specs.declared.Report.{Report}
use Rattle.interface.specs.Places.{answer_figures}

abbrev pub problem_figures : Problem → List ℕ
problem_figures p = p.kind ∷ p.block ∷ []

abbrev pub overlap_figures : Overlap → List ℕ
overlap_figures o = o.block ∷ o.owner ∷ o.claimant ∷ []

abbrev pub lost_count : Lost → ℕ
lost_count l = l.count

abbrev pub lost_first : Lost → ℕ
lost_first l = l.first

-- of kinds in a row: how many of each, then the first of each
abbrev pub lost_figures : List Lost → List ℕ
lost_figures lost = map lost_count lost ++ map lost_first lost

-- the refusal's number, or 0, the xid, and what the bitmaps say
unfoldable pub audit_figures : Answer → List ℕ
audit_figures a =
    let r = a.report in
    flatten (
    (ending_number a.ending ∷ r.xid ∷ r.pool_used ∷ r.pool_unused ∷ r.problems.total ∷ [])
    ∷ flat_map problem_figures r.problems.first
    ∷ (r.free ∷ r.wrong_chunks ∷ r.device_free ∷ [])
    ∷ []
    )

-- kinds that have their places among the base's numbers
abbrev pub base_kinds : ℕ
base_kinds = 9

-- what the claims say against them
unfoldable pub claim_figures : Report → List ℕ
claim_figures r =
    flatten (
    (overlap_figure r.overlaps ∷ [])
    ∷ flat_map overlap_figures r.overlaps.first
    ∷ lost_figures (slice 0 base_kinds r.lost)
    ∷ (r.leaked ∷ r.verdict ∷ [])
    ∷ []
    )

unfoldable pub base_figures : Answer → List ℕ
base_figures a = audit_figures a ++ claim_figures a.report

-- what came after the base stands last, in the order that it came: who has an array of earlier numbers goes on as before
unfoldable pub later_figures : Report → List ℕ
later_figures r =
    flatten (lost_figures (slice base_kinds kinds r.lost) ∷ r.overlaps.claimants ∷ (r.free_ring ∷ []) ∷ [])

unfoldable pub figures_of : Answer → List ℕ
figures_of a = base_figures a ++ later_figures a.report

-- an array after an answer was written into it: a shorter one gets the first numbers, of a longer one the rest is kept
unfoldable pub written : Answer → List ℕ → List ℕ
written a before = take (length before) (figures_of a) ++ drop answer_figures before
