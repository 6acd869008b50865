-- Where the numbers of an answer stand, as interface/space_check.h names them; of a row, where it begins.
-- proofs/Samples.antt computes that they stand there.
use Rattle.std.specs.Prelude.{ℕ}

abbrev pub refusal_at : ℕ
refusal_at = 0  -- its number, or 0 where there is a report

abbrev pub xid_at : ℕ
xid_at = 1  -- of the checkpoint taken

abbrev pub pool_used_at : ℕ
pool_used_at = 2  -- pool blocks in use

abbrev pub pool_unused_at : ℕ
pool_unused_at = 3  -- pool blocks marked but unused

abbrev pub problems_at : ℕ
problems_at = 4  -- problems in all

abbrev pub problem_at : ℕ
problem_at = 5  -- the first ten, each kind and block

abbrev pub free_at : ℕ
free_at = 25  -- free blocks counted

abbrev pub wrong_chunks_at : ℕ
wrong_chunks_at = 26  -- chunks whose count differs

abbrev pub device_free_at : ℕ
device_free_at = 27  -- the device's free count

abbrev pub overlaps_at : ℕ
overlaps_at = 28  -- overlaps in all

abbrev pub overlap_at : ℕ
overlap_at = 29  -- the first ten, each block, owner and claimant

abbrev pub lost_at : ℕ
lost_at = 59  -- blocks owned but unmarked, of kinds 1 to 9

abbrev pub first_lost_at : ℕ
first_lost_at = 68  -- the first such of each

abbrev pub leaked_at : ℕ
leaked_at = 77  -- blocks marked but unowned

abbrev pub verdict_at : ℕ
verdict_at = 78  -- 1 consistent, 2 inconsistent

abbrev pub later_lost_at : ℕ
later_lost_at = 79  -- blocks owned but unmarked, of kinds 10 and 11

abbrev pub later_first_lost_at : ℕ
later_first_lost_at = 81  -- the first such of each

abbrev pub claimants_at : ℕ
claimants_at = 83  -- overlaps by the kind that came second, of kinds 1 to 11

abbrev pub free_ring_at : ℕ
free_ring_at = 94  -- different indices visited on the free list of the pool bitmap's ring

abbrev pub answer_figures : ℕ
answer_figures = 95  -- how many numbers there are
