-- The starred samples of document 01, as one table over the definitions.
use mathlib.Core.Path.{◌≡◌, refl}
use mathlib.Core.Bool.{Bool, false, not}
use mathlib.Core.List.{List, [], ◌∷◌, ◌++◌}
use Rattle.std.specs.Prelude.{Option, Some, None}
use Prim.Native.Nat.{ℕ, ◌-◌}
use lib.Dec.{T, eqb}
use lib.ListN.{length, get_or, replicate}
use Rattle.fields.proofs.Rows.{Row, row, zeros, bytes_of, block_from, every}
use Rattle.fletcher.specs.Fletcher.{verifies}
use Rattle.blocks.specs.Reads.{Outcome, given, refused, run, done, ◌>>=◌}
use Rattle.blocks.specs.Refusals.{number_of}
use Rattle.blocks.specs.declared.Container.{Container}
use Rattle.nodes.specs.Node.{Entry, parse}
use Rattle.nodes.specs.Scan.{scan}
use Rattle.nodes.specs.declared.Description.{Description}
use Rattle.manager.specs.Chunks.{chunks_of}
use Rattle.manager.specs.declared.Chunk.{Chunk}
use Rattle.block_map.specs.BlockMap.{Marked, owner_of, count_in}
use Rattle.report.specs.Report.{no_overlaps, overlap_total, ending_number}
use Rattle.pool.specs.Pool.{Pool, pool_marked}
use Rattle.audit.specs.Audit.{no_audit, audit_chunk, audit_queued}
use Rattle.claims.specs.Claims.{claim, claim_queued}
use Rattle.space_check.specs.Check.{check}
use Rattle.audit.specs.declared.Audit.{Audit}
use Rattle.report.specs.declared.OverlapLog.{OverlapLog}
use Rattle.samples.proofs.Computing.{computed}

-- the paper's number of an outcome: 0 where it gives something
abbrev number : {A : Type 0} → Outcome A → ℕ
number (given a) = 0
number (refused r) = number_of r

-- a figure of what an outcome gives; 99 where it gives nothing
abbrev figure : {A : Type 0} → (A → ℕ) → Outcome A → ℕ
figure f (given a) = f a
figure f (refused r) = 99

abbrev block : List Row → List ℕ
block rows = block_from 4096 0 rows []

abbrev check_number : List ℕ → List ℕ → ℕ
check_number image map = ending_number (check image map).answer.ending

-- a container of 16 blocks, each the same
abbrev sixteen : Container
sixteen = record { size = 4096; count = 16; xid = 7 }

-- "Pool base 6, count 2, bitmap 0x03"
abbrev pool : Pool
pool = record { base = 6; blocks = 2; bits = 3 ∷ [] }

abbrev fresh : Marked Audit
fresh = record { map = replicate 16 0; figures = no_audit }

abbrev chunk : ℕ → Chunk
chunk bitmap = record { start = 0; blocks = 16; free = 6; bitmap = record { 0 = bitmap } }

-- the free blocks of a sixteen-block chunk whose bitmap's bytes are 0xff 0x03
abbrev free_in : ℕ → ℕ
free_in bitmap = figure (λ (s : Marked Audit). s.figures.free) (run (λ n. 0xff ∷ 0x03 ∷ []) (audit_chunk sixteen pool (chunk bitmap) fresh))

-- a chunk-info block with a count of records
abbrev info_of : ℕ → List ℕ
info_of n = block (row 36 4 n ∷ [])

-- a node of a level: no root; flags 0 for an index node, 2 for a leaf
abbrev node_of : ℕ → ℕ → List ℕ
node_of flags level = block (row 24 4 3 ∷ row 32 2 flags ∷ row 34 2 level ∷ [])

-- an index node of level 2 with one entry of varying sizes, an empty key and eight bytes of value
abbrev upper : List ℕ
upper = block (row 24 4 3 ∷ row 34 2 2 ∷ row 36 4 1 ∷ row 42 2 8 ∷ row 60 2 8 ∷ row 62 2 8 ∷ [])

abbrev sizes : Description
sizes = record { flags = 0; key = 16; value = 16 }

abbrev scanned : ℕ → Outcome ℕ
scanned child_level = run (λ n. []) (scan (λ (s : ℕ) e. done s) sizes (λ a. done (node_of 2 child_level)) upper 0)

abbrev unclaimed : Marked OverlapLog
unclaimed = record { map = replicate 16 0; figures = no_overlaps }

-- block 4 claimed for four kinds
abbrev claimed : Outcome (Marked OverlapLog)
claimed =
    run (λ n. [])
    (claim sixteen 3 4 1 unclaimed >>= claim sixteen 3 4 1 >>= claim sixteen 4 4 1 >>= claim sixteen 5 4 1)

abbrev claims_second : ℕ → ℕ
claims_second kind = figure (λ (s : Marked OverlapLog). get_or s.figures.claimants (kind - 1) 0) claimed

-- an entry of a queue: address 4, and a count or none
abbrev queued : Option (List ℕ) → Entry
queued value = record { key = zeros 8 (bytes_of 8 4 []); value = value }

abbrev owned_in : Outcome (Marked OverlapLog) → ℕ
owned_in o = figure (λ (s : Marked OverlapLog). count_in (λ x. not (eqb (owner_of x) 0)) s.map 0) o

abbrev problems_in : Outcome (Marked Audit) → ℕ
problems_in o = figure (λ (s : Marked Audit). s.figures.problems.total) o

abbrev claims_of : Option (List ℕ) → ℕ
claims_of value = owned_in (run (λ n. []) (claim_queued sixteen unclaimed (queued value)))

-- block 4 is not pool-marked, so that each of its visits is a problem
abbrev visits_of : Option (List ℕ) → ℕ
visits_of value = problems_in (run (λ n. []) (audit_queued sixteen pool fresh (queued value)))

pub table : List Bool
table =
    -- "32 bytes, zero from byte 8: first eight 0xff verify, first eight 0 don't. 28 bytes never verify."
    verifies (replicate 8 0xff ++ replicate 24 0)
    ∷ not (verifies (replicate 32 0))
    ∷ not (verifies (replicate 8 0xff ++ replicate 20 0))
    -- "6 and 7 marked; 5 and 8 not."
    ∷ pool_marked pool 6
    ∷ pool_marked pool 7
    ∷ not (pool_marked pool 5)
    ∷ not (pool_marked pool 8)
    -- "bitmap address 0 gives 16 free; bytes 0xff 0x03 give 6."
    ∷ eqb (free_in 0) 16
    ∷ eqb (free_in 7) 6
    -- "126 chunk records fit 4,096 bytes; 127 give 17."
    ∷ eqb (figure length (run (λ n. []) (chunks_of (info_of 126)))) 126
    ∷ eqb (number (run (λ n. []) (chunks_of (info_of 127)))) 17
    -- "Level 32 parses, 33 gives 15."
    ∷ eqb (number (run (λ n. []) (parse (node_of 2 32)))) 0
    ∷ eqb (number (run (λ n. []) (parse (node_of 2 33)))) 15
    -- "Child 0 under level 2 gives 18.", and child 1 none
    ∷ eqb (number (scanned 0)) 18
    ∷ eqb (number (scanned 1)) 0
    -- "Kinds 3, 3, 4, 5 on one block: 2 overlaps, owner 3."
    ∷ eqb (figure (λ (s : Marked OverlapLog). overlap_total s.figures) claimed) 2
    -- document 02: "a count for each kind that arrived second", 4 and 5, and none for the kind that claims its own
    ∷ eqb (claims_second 4) 1
    ∷ eqb (claims_second 5) 1
    ∷ eqb (claims_second 3) 0
    ∷ eqb (figure (λ (s : Marked OverlapLog). owner_of (get_or s.map 4 0)) claimed) 3
    -- "Ghost: 1 block. Count 0: none.", in either queue
    ∷ eqb (claims_of None) 1
    ∷ eqb (claims_of (Some (zeros 8 []))) 0
    ∷ eqb (visits_of None) 1
    ∷ eqb (visits_of (Some (zeros 8 []))) 0
    -- "Size 6,144 gives 3. 4,095 bytes give 1."
    ∷ eqb (check_number (block (row 32 4 0x4253584e ∷ row 36 4 6144 ∷ [])) []) 3
    ∷ eqb (check_number (zeros 4095 []) []) 1
    ∷ []

pub samples : T (every table)
unfolding computed table block_from zeros bytes_of
samples = tt

-- "28 bytes never verify", whatever they are
pub short_never : (b : List ℕ) → length b ≡ 28 → verifies b ≡ false
unfolding verifies
short_never b e = rw e refl
