-- The audit of the main device over address blocks: the problems in their order, the blocks used, refusals. The sentences are
-- document 02's, but for one.
use Rattle.std.proofs.Common.{Bool, List, [], ◌∷◌, map, ℕ, ◌+◌, ◌-◌, ◌*◌, ◌^◌, T, eqb, length, get_or, take, replicate}
use Rattle.fields.specs.Fields.{le, num, field_at, bit_at}
use Rattle.fields.proofs.Rows.{Row, row, zeros, bytes_of, block_from, same, every}
use Rattle.blocks.specs.Reads.{Reads, Outcome, given, refused, run, ◌>>=◌, need}
use Rattle.blocks.specs.Blocks.{read_raw, present, field, sum}
use Rattle.blocks.specs.Refusals.{number_of}
use Rattle.blocks.specs.declared.Container.{Container}
use Rattle.manager.specs.Manager.{list_from, addresses_of}
use Rattle.manager.specs.Chunks.{chunk_at, chunks_from}
use Rattle.block_map.specs.BlockMap.{Marked, update, is_used, used_at, count_in}
use Rattle.report.specs.Report.{no_problems, note, add_problem}
use Rattle.pool.specs.Pool.{Pool, pool_marked}
use Rattle.audit.specs.Audit.{no_audit, unless, audit_mark, audit_use, enter, mark_set, mark_bit, mark_from, tally, tally_bitmap, read_bitmap, audit_bitmap, audit_chunk, audit_chunks, enter_info, read_info, audit_info, audit_each, enter_address, read_address, audit_address, audit_listed, audit_device, audit_queued_block, audit_queued_from}
use Rattle.audit.specs.clauses.Answers.{audited}
use Rattle.audit.specs.declared.Audit.{Audit}

-- sixteen blocks of 72 bytes, in which an address block has room for four addresses
abbrev block : List Row → List ℕ
block rows = block_from 72 0 rows []

-- 0: a superblock's size of blocks at byte 36; 1, 2: chunk-info blocks without a chunk; 3: one whose only chunk has block 5 as its
-- bitmap; 5 to 10: address blocks, of which 9 and 10 name block 16, which there isn't
abbrev blocks : ℕ → List ℕ
blocks n =
    get_or
    (block (row 36 4 72 ∷ [])
    ∷ block []
    ∷ block []
    ∷ block (row 36 4 1 ∷ row 64 8 5 ∷ [])
    ∷ []
    ∷ block (row 36 4 2 ∷ row 40 8 1 ∷ row 48 8 2 ∷ [])
    ∷ block (row 36 4 1 ∷ row 40 8 3 ∷ [])
    ∷ block []
    ∷ block (row 36 4 4 ∷ row 40 8 1 ∷ row 48 8 1 ∷ row 56 8 1 ∷ row 64 8 1 ∷ [])
    ∷ block (row 36 4 5 ∷ row 40 8 16 ∷ [])
    ∷ block (row 36 4 1 ∷ row 40 8 16 ∷ [])
    ∷ [])
    n
    []

-- a manager that counts its chunk-info blocks and its address blocks, and lists two addresses; there is room for two
abbrev manager : ℕ → ℕ → ℕ → ℕ → List ℕ
manager infos addresses one two = block_from 104 0 (row 64 4 infos ∷ row 68 4 addresses ∷ row 80 4 88 ∷ row 88 8 one ∷ row 96 8 two ∷ []) []

abbrev container : Container
container = record { size = 72; count = 16; xid = 7 }

-- a pool of all blocks with these marks
abbrev pool : ℕ → Pool
pool marks = record { base = 0; blocks = 16; bits = bytes_of 2 marks [] }

abbrev marked : ℕ
marked = 2 ^ 16 - 1

-- the audit of a manager's device, and that of a queued block after it
abbrev device : ℕ → List ℕ → Reads (Marked Audit)
device marks sm = audit_device container (pool marks) sm (audited (replicate 16 0) no_audit)

abbrev found : ℕ → List ℕ → Outcome (Marked Audit)
found marks sm = run blocks (device marks sm)

abbrev queued : ℕ → List ℕ → Outcome (Marked Audit)
queued a sm = run blocks (device marked sm >>= audit_queued_from container (pool marked) 1 a)

-- the problems, each as its kind and two digits of its block; of a refusal, the paper's number
abbrev problems : Outcome (Marked Audit) → List ℕ
problems (given s) = map (λ p. p.kind * 100 + p.block) (take s.figures.problems.total s.figures.problems.first)
problems (refused r) = number_of r ∷ []

abbrev used : Outcome (Marked Audit) → ℕ
used (given s) = count_in is_used s.map 0
used (refused r) = 100 + number_of r

-- how many addresses a block of 4,096 bytes lists that counts so many; of a refusal, 100 more than its number
abbrev addresses : Outcome (List ℕ) → ℕ
addresses (given l) = length l
addresses (refused r) = 100 + number_of r

abbrev listed : ℕ → ℕ
listed n = addresses (run blocks (addresses_of (block_from 4096 0 (row 36 4 n ∷ []) [])))

table : List Bool
table =
    -- "Follow them": an address block with two chunk-info blocks, "entered as used" like those
    same (problems (found marked (manager 0 1 5 0))) []
    ∷ eqb (used (found marked (manager 0 1 5 0))) 3
    -- without one the list names chunk-info blocks
    ∷ same (problems (found 0 (manager 1 0 1 0))) (101 ∷ [])
    -- document 01: "A chunk-info block named again is no problem."
    ∷ same (problems (found marked (manager 2 0 1 1))) []
    -- the count of chunk-info blocks is used nowhere beside that of address blocks
    ∷ eqb (used (found marked (manager (2 ^ 32 - 1) 1 5 0))) 3
    -- "An unmarked one is problem 6"
    ∷ same (problems (found (marked - 2 ^ 5) (manager 0 1 5 0))) (605 ∷ [])
    -- "its chunk-info blocks are audited before the next address block"
    ∷ same (problems (found 0 (manager 0 2 5 7))) (605 ∷ 101 ∷ 102 ∷ 607 ∷ [])
    -- named again, or used before as a chunk's bitmap, it is no problem; as a bitmap or a queued block it is used already
    ∷ same (problems (found marked (manager 0 2 5 5))) []
    ∷ same (problems (found marked (manager 0 2 6 5))) []
    ∷ same (problems (found marked (manager 0 2 5 6))) (305 ∷ [])
    ∷ same (problems (queued 5 (manager 0 1 5 0))) (505 ∷ [])
    -- 12 at the block count
    ∷ same (problems (found marked (manager 0 1 16 0))) (12 ∷ [])
    ∷ same (problems (found marked (manager 0 1 10 0))) (12 ∷ [])
    -- 17 where its list passes the block's end, or the manager's the manager's, before the first block that is listed
    ∷ eqb (used (found marked (manager 0 1 8 0))) 2
    ∷ same (problems (found marked (manager 0 1 9 0))) (17 ∷ [])
    ∷ same (problems (found marked (manager 0 1 0 0))) (17 ∷ [])
    ∷ same (problems (found marked (manager 0 3 16 16))) (17 ∷ [])
    -- "as `cib_addrs` reads them": the block's end alone bounds them
    ∷ eqb (listed 507) 507
    ∷ eqb (listed 508) 117
    -- an empty one is no problem
    ∷ same (problems (found marked (manager 0 1 7 0))) []
    ∷ eqb (used (found marked (manager 0 1 7 0))) 1
    ∷ []

samples : T (every table)
unfolding table le num field_at bit_at zeros bytes_of block_from run ◌>>=◌ need read_raw present field sum list_from chunk_at chunks_from update used_at count_in no_problems note add_problem pool_marked unless audit_mark audit_use enter mark_set mark_bit mark_from tally tally_bitmap read_bitmap audit_bitmap audit_chunk audit_chunks enter_info read_info audit_info audit_each enter_address read_address audit_address audit_listed audit_device audit_queued_block audit_queued_from
samples = tt
