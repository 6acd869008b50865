-- An answer whose every figure but two is 100 more than its place: written out, they count up, so that each stands where its name says.
use Rattle.std.specs.Prelude.{Err}
use mathlib.Core.List.{List, [], ◌∷◌, ◌++◌, flat_map, flatten}
use mathlib.Core.Path.{◌≡◌, refl}
use Prim.Native.Nat.{ℕ, zero, suc, ◌+◌, ◌-◌}
use lib.ListN.{set}
use Rattle.blocks.specs.declared.Refusal.TheVariants.{ShortMap}
use Rattle.report.specs.Report.{logged, kinds, sum_of, ending_number}
use Rattle.report.specs.declared.Answer.{Answer}
use Rattle.report.specs.declared.Lost.{Lost}
use Rattle.report.specs.declared.Overlap.{Overlap}
use Rattle.report.specs.declared.Problem.{Problem}
use Rattle.interface.specs.Places.{refusal_at, xid_at, pool_used_at, pool_unused_at, problems_at, problem_at, free_at, wrong_chunks_at, device_free_at}
use Rattle.interface.specs.Places.{overlaps_at, overlap_at, lost_at, first_lost_at, leaked_at, verdict_at, later_lost_at, later_first_lost_at, claimants_at, free_ring_at, answer_figures}
use Rattle.interface.specs.Figures.{base_kinds, figures_of, base_figures, audit_figures, claim_figures, later_figures}

-- k of each, of which the first has its numbers from a place on
abbrev problems : ℕ → ℕ → List Problem
problems zero at = []
problems (suc k) at = record { kind = 100 + at; block = 101 + at } ∷ problems k (at + 2)

abbrev overlaps : ℕ → ℕ → List Overlap
overlaps zero at = []
overlaps (suc k) at = record { block = 100 + at; owner = 101 + at; claimant = 102 + at } ∷ overlaps k (at + 3)

abbrev lost : ℕ → ℕ → ℕ → List Lost
lost zero at first = []
lost (suc k) at first = record { count = 100 + at; first = 100 + first } ∷ lost k (at + 1) (first + 1)

-- so many numbers, each one more than the last
abbrev counting : ℕ → ℕ → List ℕ
counting zero n = []
counting (suc k) n = n ∷ counting k (n + 1)

abbrev sample : Answer
sample =
    record {
      ending = Err ShortMap;
      report =
          record {
            xid = 100 + xid_at;
            pool_used = 100 + pool_used_at;
            pool_unused = 100 + pool_unused_at;
            free_ring = 100 + free_ring_at;
            problems = record { total = 100 + problems_at; first = problems logged problem_at };
            free = 100 + free_at;
            wrong_chunks = 100 + wrong_chunks_at;
            device_free = 100 + device_free_at;
            overlaps = record { claimants = counting kinds (100 + claimants_at); first = overlaps logged overlap_at };
            lost = lost base_kinds lost_at first_lost_at ++ lost (kinds - base_kinds) later_lost_at later_first_lost_at;
            leaked = 100 + leaked_at;
            verdict = 100 + verdict_at;
          };
    }

-- two can't be chosen: a refusal's number, 6 that of a short map, and the overlaps' total, 183 + .. + 193
sampled : figures_of sample ≡ set (set (counting answer_figures 100) refusal_at 6) overlaps_at 2068
unfolding sum_of figures_of base_figures audit_figures claim_figures later_figures flat_map flatten ending_number
sampled = refl
