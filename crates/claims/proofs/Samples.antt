-- The claim of one mapping, live and deleted, by its flags, its address and the length of its key and value. The sentences are document 02's.
use mathlib.Core.Bool.{Bool, not}
use mathlib.Core.List.{List, [], ◌∷◌}
use Rattle.std.specs.Prelude.{Some}
use Prim.Native.Nat.{ℕ, ◌+◌, ◌-◌, ◌^◌}
use lib.Dec.{T, eqb}
use lib.ListN.{replicate, take}
use Rattle.fields.specs.Fields.{le, num, field_at}
use Rattle.fields.proofs.Rows.{bytes_of, every}
use Rattle.blocks.specs.Reads.{Outcome, given, refused, run, no_blocks, ◌>>=◌, need}
use Rattle.blocks.specs.Blocks.{present, field, sum}
use Rattle.blocks.specs.Refusals.{number_of}
use Rattle.block_map.specs.BlockMap.{Marked, update, owner_of, count_in}
use Rattle.report.specs.Report.{no_overlaps, sum_of, overlap_total, count_claimant, note, add_overlap}
use Rattle.report.specs.declared.OverlapLog.{OverlapLog}
use Rattle.totals.specs.Totals.{unowned}
use Rattle.claims.specs.Claims.{internal_pool, claim_block, claim_from, claim, mapped_address, claim_mapped, claim_mapping}
use Rattle.claims.specs.clauses.Answers.{owned}

-- in sixteen blocks of one owner: a key of so many bytes, and the first so many bytes of a value, which are flags, size and address
abbrev claimed : ℕ → ℕ → ℕ → ℕ → ℕ → Outcome (Marked OverlapLog)
claimed owner key_bytes value_bytes flags address =
    run no_blocks
    (claim_mapping (record { size = 4096; count = 16; xid = 7 }) (owned (replicate 16 owner) no_overlaps)
    (record { key = replicate key_bytes 0; value = Some (take value_bytes (bytes_of 4 flags (bytes_of 4 4096 (bytes_of 8 address [])))) }))

-- a figure of what is given; of a refusal, the paper's number plus 100
abbrev figure : (Marked OverlapLog → ℕ) → Outcome (Marked OverlapLog) → ℕ
figure f (given s) = f s
figure f (refused r) = 100 + number_of r

-- the blocks that a mapping comes to own, where nothing is owned
abbrev owns : ℕ → ℕ → ℕ → ℕ → ℕ
owns key_bytes value_bytes flags address = figure (λ s. count_in (λ x. not (eqb (owner_of x) unowned)) s.map 0) (claimed unowned key_bytes value_bytes flags address)

-- the overlaps of a whole mapping, where the pool owns every block
abbrev overlaps : ℕ → ℕ
overlaps flags = figure (λ s. overlap_total s.figures) (claimed internal_pool 16 16 flags 4)

table : List Bool
table =
    -- "A mapping with that flag claims nothing"
    eqb (owns 16 16 0 4) 1
    ∷ eqb (owns 16 16 1 4) 0
    -- "the block it once named, long since given to something else, came up as an overlap"
    ∷ eqb (overlaps 0) 1
    ∷ eqb (overlaps 1) 0
    -- no other flag means anything, neither without it nor beside it
    ∷ eqb (owns 16 16 (2 ^ 32 - 2) 4) 1
    ∷ eqb (owns 16 16 (2 ^ 32 - 1) 4) 0
    -- "its entry is still read, so a malformed one is still refused"
    ∷ eqb (owns 16 12 1 4) 117
    ∷ eqb (owns 15 16 1 4) 117
    -- nothing is claimed, so no sum is made
    ∷ eqb (owns 16 16 0 (2 ^ 64 - 1)) 121
    ∷ eqb (owns 16 16 1 (2 ^ 64 - 1)) 0
    ∷ []

samples : T (every table)
unfolding table le num field_at bytes_of run ◌>>=◌ need present field sum update count_in no_overlaps sum_of count_claimant note add_overlap claim_block claim_from claim mapped_address claim_mapped claim_mapping
samples = tt
