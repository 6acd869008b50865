-- Overlaps counted by the kind that came second. The sentences are document 02's.
use Rattle.std.proofs.Common.{ℕ, ◌+◌, ◌-◌, ◌^◌, Bool, T, eqb, List, [], ◌∷◌, ◌++◌, get_or, replicate}
use Rattle.fields.proofs.Rows.{every}
use Rattle.blocks.specs.Reads.{Outcome, given, refused, run, no_blocks, ◌>>=◌, need}
use Rattle.blocks.specs.Blocks.{sum}
use Rattle.blocks.specs.Refusals.{number_of}
use Rattle.block_map.specs.BlockMap.{update}
use Rattle.report.specs.Report.{no_overlaps, sum_of, overlap_total, count_claimant, note, add_overlap}
use Rattle.report.specs.declared.Overlap.{Overlap}
use Rattle.report.specs.declared.OverlapLog.{OverlapLog}

-- a block that the pool owns, claimed by a kind
abbrev claimed_by : ℕ → Overlap
claimed_by kind = record { block = 4; owner = 4; claimant = kind }

-- counts of kinds 8 and 9, and none of the others
abbrev counts : ℕ → ℕ → OverlapLog
counts eighth ninth = record { claimants = replicate 7 0 ++ (eighth ∷ ninth ∷ 0 ∷ 0 ∷ []); first = no_overlaps.first }

-- a figure of what is given; of a refusal, the paper's number plus 100
abbrev figure : (OverlapLog → ℕ) → Outcome OverlapLog → ℕ
figure f (given l) = f l
figure f (refused r) = 100 + number_of r

-- after one more, by a kind: the count of another, and the total
abbrev count_of : ℕ → ℕ → OverlapLog → ℕ
count_of kind claimant l = figure (λ l. get_or l.claimants (kind - 1) 0) (run no_blocks (add_overlap (claimed_by claimant) l))

abbrev total_of : ℕ → OverlapLog → ℕ
total_of claimant l = figure overlap_total (run no_blocks (add_overlap (claimed_by claimant) l))

-- which claimant stands first and second in the log
abbrev named_at : ℕ → OverlapLog → ℕ
named_at place l = figure (λ l. (get_or l.first place (claimed_by 0)).claimant) (run no_blocks (add_overlap (claimed_by 9) l >>= add_overlap (claimed_by 8)))

table : List Bool
table =
    -- "a count for each kind that arrived second": for the claimant, and not for the owner
    eqb (count_of 9 9 no_overlaps) 1
    ∷ eqb (count_of 4 9 no_overlaps) 0
    ∷ eqb (count_of 1 1 no_overlaps) 1
    ∷ eqb (count_of 11 11 no_overlaps) 1
    ∷ eqb (count_of 8 9 (counts 3 5)) 3
    ∷ eqb (count_of 9 9 (counts 3 5)) 6
    -- "the printed total equals the sum of those lines"
    ∷ eqb (total_of 9 (counts 3 5)) 9
    ∷ eqb (total_of 2 (counts 3 5)) 9
    -- "the first ten" are placed by the total
    ∷ eqb (named_at 0 no_overlaps) 9
    ∷ eqb (named_at 1 no_overlaps) 8
    ∷ eqb (named_at 9 (counts 4 5)) 9
    -- "21 still guards it": the total, which passes 2^64 − 1 where no single count does
    ∷ eqb (total_of 9 (counts (2 ^ 63) (2 ^ 63 - 2))) (2 ^ 64 - 1)
    ∷ eqb (total_of 9 (counts (2 ^ 63) (2 ^ 63 - 1))) 121
    ∷ eqb (total_of 2 (counts (2 ^ 63) (2 ^ 63 - 1))) 121
    ∷ []

samples : T (every table)
unfolding table run ◌>>=◌ need sum update no_overlaps sum_of count_claimant note add_overlap
samples = tt
