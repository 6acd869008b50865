-- The overlaps in every report of the check: a count for each kind, and their sum below 2^64, since it is the sum that 21 guards.
use Rattle.std.specs.Prelude.{Option}
use Rattle.checkpoint.specs.declared.Mapping.{Mapping}
use mathlib.Core.Path.{◌≡◌, refl, ◌∙◌}
use mathlib.Core.List.{List}
use Prim.Native.Nat.{ℕ, ◌^◌, ◌<◌}
use native.Mathlib.Omega.{arith}
use lib.Dec.{lit<}
use lib.ListN.{length}
use Rattle.blocks.specs.declared.Container.{Container}
use Rattle.blocks.specs.declared.ObjectId.{ObjectId}
use Rattle.report.specs.Report.{kinds, no_overlaps, sum_of, overlap_total, overlap_figure, add_overlap, zero_report}
use Rattle.report.specs.declared.Overlap.{Overlap}
use Rattle.report.specs.declared.OverlapLog.{OverlapLog}
use Rattle.report.proofs.Laws.{counted_all, counted_most}
use Rattle.space_check.specs.Check.{check, body, audit_and_claim, claim_and_report, report_of}
use Rattle.space_check.proofs.Ends.{Ends, ends_done, ends_after, ends_bind, ends_sum, ends_claims, ends_check}

pub record Summed (l : OverlapLog) : Type 0 where
  pub each : length l.claimants ≡ kinds
  pub fits : overlap_total l < 2 ^ 64

none_summed : Summed no_overlaps
unfolding no_overlaps sum_of
none_summed = record { each = refl; fits = lit< tt }

-- 21 comes before the sum passes 2^64 − 1
more_summed : (o : Overlap) (l : OverlapLog) → Summed l → Ends Summed (add_overlap o l)
unfolding add_overlap
more_summed o l h =
    ends_bind _ _ _ _ (ends_sum (overlap_total l) 1) (λ n made.
    ends_done _ _ (record {
      each = counted_all o.claimant l.claimants ∙ h.each;
      fits = omega (arith, made, counted_most o.claimant l.claimants);
    }))

body_summed : (c : Container) (sb : List ℕ) (mapped : ObjectId → Option Mapping) (map : List ℕ) → Ends (λ s. Summed s.figures.overlaps) (body c sb mapped map)
unfolding body audit_and_claim claim_and_report report_of
body_summed c sb mapped map =
    ends_after _ _ _ (λ x.
    ends_after _ _ _ (λ a.
    ends_bind _ _ _ _ (ends_claims (λ s. Summed s.figures) (λ kind a s k h. h) (λ o s h. more_summed o s.figures h) c sb mapped x _ none_summed) (λ s h. ends_done _ _ h)))

pub overlaps_summed : (image map : List ℕ) → Summed (check image map).answer.report.overlaps
unfolding zero_report
overlaps_summed = ends_check (λ r. Summed r.overlaps) none_summed (λ c sb mapped map few. body_summed c sb mapped map)

-- so the one number that stands for all overlaps is their sum: number 28, and the total that is printed
pub overlaps_exact : (image map : List ℕ) → overlap_figure (check image map).answer.report.overlaps ≡ overlap_total (check image map).answer.report.overlaps
overlaps_exact image map = omega (arith, (overlaps_summed image map).fits)
