-- What a pass answers: logs of ten places, the report, and a refusal's.
use Rattle.std.specs.Prelude.{Err, Ok, Result}
use Rattle.std.specs.Prelude.{ℕ, ◌+◌, ◌-◌, ◌^◌, min, List, [], ◌∷◌, replicate, nat_lt, slice_set}
use Rattle.fields.specs.Choice.{pick}
use Rattle.blocks.specs.Reads.{Reads, done, ◌>>=◌}
use Rattle.blocks.specs.Blocks.{sum}
use Rattle.blocks.specs.Refusals.{number_of}
use Rattle.blocks.specs.declared.Refusal.{Refusal}
use Rattle.block_map.specs.BlockMap.{update}
use Rattle.report.specs.declared.Problem.{Problem}
use Rattle.report.specs.declared.ProblemLog.{ProblemLog}
use Rattle.report.specs.declared.Overlap.{Overlap}
use Rattle.report.specs.declared.OverlapLog.{OverlapLog}
use Rattle.report.specs.declared.Report.{Report}
use Rattle.report.specs.declared.Answer.{Answer}

-- "the first ten"
abbrev pub logged : ℕ
logged = 10

-- "Unfilled places are 0."
unfoldable pub no_problems : ProblemLog
no_problems = record { total = 0; first = replicate logged (record { kind = 0; block = 0 }) }

-- how many kinds of claimants there are
abbrev pub kinds : ℕ
kinds = 11

unfoldable pub no_overlaps : OverlapLog
no_overlaps = record { claimants = replicate kinds 0; first = replicate logged (record { block = 0; owner = 0; claimant = 0 }) }

-- overlaps in all: document 02, "the printed total equals the sum of those lines", one for each kind
unfoldable pub sum_of : List ℕ → ℕ
sum_of [] = 0
sum_of (n ∷ ns) = n + sum_of ns

abbrev pub overlap_total : OverlapLog → ℕ
overlap_total l = sum_of l.claimants

-- the total as a number of 64 bits, 2^64 − 1 where it is more; in the report of a pass it is the sum itself (`overlaps_exact`,
-- space_check/proofs/Overlaps.antt)
abbrev pub overlap_figure : OverlapLog → ℕ
overlap_figure l = min (overlap_total l) (2 ^ 64 - 1)

-- x at the next place, where there is one
unfoldable pub note : {A : Type 0} → ℕ → A → List A → List A
note total x first = pick (nat_lt total logged) (slice_set first total x) first

-- "21. A sum or a report count passes 2^64 − 1"
unfoldable pub add_problem : Problem → ProblemLog → Reads ProblemLog
add_problem p l = do
  n ← sum l.total 1
  done (record { total = n; first = note l.total p l.first })

-- document 02: "a count for each kind that arrived second"; kinds count from 1, places from 0
unfoldable pub count_claimant : ℕ → List ℕ → List ℕ
count_claimant kind claimants = update (λ n. n + 1) (kind - 1) claimants

-- document 02: the total "must still match the Rust's, and 21 still guards it": it, and no single count
unfoldable pub add_overlap : Overlap → OverlapLog → Reads OverlapLog
add_overlap o l = do
  _ ← sum (overlap_total l) 1
  done (record { claimants = count_claimant o.claimant l.claimants; first = note (overlap_total l) o l.first })

-- "an all-zero report"
unfoldable pub zero_report : Report
zero_report =
    record {
      xid = 0;
      pool_used = 0;
      pool_unused = 0;
      free_ring = 0;
      problems = no_problems;
      free = 0;
      wrong_chunks = 0;
      device_free = 0;
      overlaps = no_overlaps;
      lost = replicate kinds (record { count = 0; first = 0 });
      leaked = 0;
      verdict = 0;
    }

-- "A refusal gives its number and an all-zero report."
unfoldable pub refusal : Refusal → Answer
refusal r = record { ending = Err r; report = zero_report }

unfoldable pub reported : Report → Answer
reported r = record { ending = (Ok tt); report = r }

-- the paper's number of an ending: 0 where there is a report
unfoldable pub ending_number : Result (Unit {0}) Refusal → ℕ
ending_number (Ok tt) = 0
ending_number (Err r) = number_of r
