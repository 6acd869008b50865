-- The audit: what the chunks' bitmaps mark and count, what of the pool is used, and the problems met.
use Rattle.std.specs.Prelude.{Bool, true, false, not, List, [], ◌∷◌, ℕ, zero, suc, ◌+◌, ◌*◌, leb, ltb, eqb, length}
use Rattle.fields.specs.Choice.{pick, choose}
use Rattle.fields.specs.Fields.{bit_at}
use Rattle.blocks.specs.Reads.{Reads, done, ◌>>=◌, need}
use Rattle.blocks.specs.Blocks.{read_raw, sum}
use Rattle.blocks.specs.declared.Address.{Address}
use Rattle.blocks.specs.declared.Container.{Container}
use Rattle.blocks.specs.declared.Refusal.TheVariants.{BadBitmap, Overflow}
use Rattle.nodes.specs.Node.{Entry}
use Rattle.manager.specs.Manager.{has_address_blocks, listed, addresses_of}
use Rattle.manager.specs.Chunks.{chunks_of}
use Rattle.manager.specs.declared.Chunk.{Chunk}
use Rattle.block_map.specs.BlockMap.{Marked, update, used_at, marked, used}
use Rattle.report.specs.Report.{no_problems, add_problem}
use Rattle.report.specs.declared.ProblemLog.{ProblemLog}
use Rattle.pool.specs.Pool.{Pool, pool_marked}
use Rattle.queue.specs.Queue.{run_of}
use Rattle.audit.specs.declared.Audit.{Audit}

-- "Problems, in the order met"
abbrev pub info_unmarked : ℕ
info_unmarked = 1

abbrev pub bitmap_unmarked : ℕ
bitmap_unmarked = 2

abbrev pub bitmap_in_use : ℕ
bitmap_in_use = 3

abbrev pub queued_unmarked : ℕ
queued_unmarked = 4

abbrev pub queued_in_use : ℕ
queued_in_use = 5

-- document 02, of an address block: "An unmarked one is problem 6."
abbrev pub address_unmarked : ℕ
address_unmarked = 6

-- document 02, of the ring's free list: "A bitmap index in use that is also on this list is problem 7, and an index visited twice
-- is problem 8 alone"
abbrev pub free_in_use : ℕ
free_in_use = 7

abbrev pub free_repeated : ℕ
free_repeated = 8

-- what is counted: nothing yet; other problems; other counts of free blocks and of chunks whose count differs; another count of
-- the free list's indices
abbrev pub no_audit : Audit
no_audit = record { problems = no_problems; free = 0; wrong = 0; ring = 0 }

abbrev pub with_problems : ProblemLog → Audit → Audit
with_problems l a = record { problems = l; free = a.free; wrong = a.wrong; ring = a.ring }

abbrev pub with_counts : ℕ → ℕ → Audit → Audit
with_counts free wrong a = record { problems = a.problems; free = free; wrong = wrong; ring = a.ring }

abbrev pub with_ring : ℕ → Audit → Audit
with_ring ring a = record { problems = a.problems; free = a.free; wrong = a.wrong; ring = ring }

-- a problem of a kind with block a, unless the test holds
unfoldable pub unless : Bool → ℕ → ℕ → Marked Audit → Reads (Marked Audit)
unless true kind a s = done s
unless false kind a s = do
  l ← add_problem (record { kind = kind; block = a }) s.figures.problems
  done (record { map = s.map; figures = with_problems l s.figures })

-- block a: its mark in the pool's bitmap
unfoldable pub audit_mark : Pool → ℕ → ℕ → Marked Audit → Reads (Marked Audit)
audit_mark p unmarked a s = unless (pool_marked p a) unmarked a s

-- its mark, then whether it is used already
unfoldable pub audit_use : Container → Pool → ℕ → ℕ → ℕ → Marked Audit → Reads (Marked Audit)
audit_use c p unmarked in_use a s = audit_mark p unmarked a s >>= λ s₁. unless (not (used_at c s₁.map a)) in_use a s₁

-- block a used in the pool
unfoldable pub enter : ℕ → Marked Audit → Marked Audit
enter a s = record { map = update used a s.map; figures = s.figures }

-- the block of a set bit: "20. .. a set bit names a block past the count"
unfoldable pub mark_set : Container → ℕ → ℕ → Marked ℕ → Reads (Marked ℕ)
mark_set c start i s = do
  a ← sum start i
  _ ← need (ltb a c.count) BadBitmap
  done (record { map = update marked a s.map; figures = s.figures })

-- bit i of a chunk's bitmap: a set one is marked in the block map, a clear one counted
unfoldable pub mark_bit : Container → List ℕ → ℕ → ℕ → Marked ℕ → Reads (Marked ℕ)
mark_bit c bits start i s = choose (bit_at bits i) (λ _. mark_set c start i s) (λ _. done (record { map = s.map; figures = s.figures + 1 }))

-- the bits from i on, of which left are left
unfoldable pub mark_from : Container → List ℕ → ℕ → ℕ → ℕ → Marked ℕ → Reads (Marked ℕ)
mark_from c bits start zero i s = done s
mark_from c bits start (suc left) i s = mark_bit c bits start i s >>= mark_from c bits start left (i + 1)

-- "free blocks counted, chunks whose count differs": a chunk with so many zeros
unfoldable pub tally : Chunk → List ℕ → Audit → ℕ → Reads (Marked Audit)
tally ch map a zeros = do
  f ← sum a.free zeros
  w ← sum a.wrong (pick (eqb zeros ch.free) 0 1)
  done (record { map = map; figures = with_counts f w a })

-- a chunk's bits, and then its zeros
unfoldable pub tally_bitmap : Container → Chunk → List ℕ → Marked Audit → Reads (Marked Audit)
tally_bitmap c ch bits s = do
  m ← mark_from c bits ch.start ch.blocks 0 (record { map = s.map; figures = 0 })
  tally ch m.map s.figures m.figures

-- "20. A bitmap holds fewer bits than its .. chunk .. before its bits"
unfoldable pub read_bitmap : Container → Chunk → Marked Audit → Reads (Marked Audit)
read_bitmap c ch s = do
  bits ← read_raw c ch.bitmap
  _ ← need (leb ch.blocks (length bits * 8)) BadBitmap
  tally_bitmap c ch bits (enter ch.bitmap.0 s)

-- "2 chunk bitmap unmarked; 3 chunk bitmap already used"
unfoldable pub audit_bitmap : Container → Pool → Chunk → Marked Audit → Reads (Marked Audit)
audit_bitmap c p ch s = audit_use c p bitmap_unmarked bitmap_in_use ch.bitmap.0 s >>= read_bitmap c ch

-- "Bitmap address 0: the whole chunk is free and nothing is read."
unfoldable pub audit_chunk : Container → Pool → Chunk → Marked Audit → Reads (Marked Audit)
audit_chunk c p ch s = choose (eqb ch.bitmap.0 0) (λ _. tally ch s.map s.figures ch.blocks) (λ _. audit_bitmap c p ch s)

unfoldable pub audit_chunks : Container → Pool → List Chunk → Marked Audit → Reads (Marked Audit)
audit_chunks c p [] s = done s
audit_chunks c p (ch ∷ rest) s = audit_chunk c p ch s >>= audit_chunks c p rest

-- a chunk-info block, once it was read: all its records before its first chunk
unfoldable pub enter_info : Container → Pool → Address → Marked Audit → List ℕ → Reads (Marked Audit)
enter_info c p a s b = chunks_of b >>= λ chs. audit_chunks c p chs (enter a.0 s)

unfoldable pub read_info : Container → Pool → Address → Marked Audit → Reads (Marked Audit)
read_info c p a s = read_raw c a >>= enter_info c p a s

-- "1 chunk-info block unmarked"; "A chunk-info block named again is no problem."
unfoldable pub audit_info : Container → Pool → Address → Marked Audit → Reads (Marked Audit)
audit_info c p a s = audit_mark p info_unmarked a.0 s >>= read_info c p a

-- the blocks that a list names, one after the other
unfoldable pub audit_each : (Address → Marked Audit → Reads (Marked Audit)) → List ℕ → Marked Audit → Reads (Marked Audit)
audit_each visit [] s = done s
audit_each visit (a ∷ rest) s = visit (record { 0 = a }) s >>= audit_each visit rest

-- an address block, once it was read: its whole list comes before the first block of it. Document 02: it "is entered as used", and
-- "its chunk-info blocks are audited before the next address block"
unfoldable pub enter_address : Container → Pool → Address → Marked Audit → List ℕ → Reads (Marked Audit)
enter_address c p a s b = addresses_of b >>= λ infos. audit_each (audit_info c p) infos (enter a.0 s)

-- document 02: it "is read without a checksum"
unfoldable pub read_address : Container → Pool → Address → Marked Audit → Reads (Marked Audit)
read_address c p a s = read_raw c a >>= enter_address c p a s

-- document 02: "An address block must be pool-marked"
unfoldable pub audit_address : Container → Pool → Address → Marked Audit → Reads (Marked Audit)
audit_address c p a s = audit_mark p address_unmarked a.0 s >>= read_address c p a

-- the main device: the address blocks that its manager lists, or the chunk-info blocks, in their order
unfoldable pub audit_listed : Container → Pool → Bool → List ℕ → Marked Audit → Reads (Marked Audit)
audit_listed c p true l s = audit_each (audit_address c p) l s
audit_listed c p false l s = audit_each (audit_info c p) l s

unfoldable pub audit_device : Container → Pool → List ℕ → Marked Audit → Reads (Marked Audit)
audit_device c p sm s = listed sm >>= λ l. audit_listed c p (has_address_blocks sm) l s

-- a block in the pool queue: "4 queued block unmarked; 5 queued block already used"
unfoldable pub audit_queued_block : Container → Pool → ℕ → Marked Audit → Reads (Marked Audit)
audit_queued_block c p a s = audit_use c p queued_unmarked queued_in_use a s >>= λ s'. done (enter a s')

-- the blocks of a run from a on, of which left are left
unfoldable pub audit_queued_from : Container → Pool → ℕ → ℕ → Marked Audit → Reads (Marked Audit)
audit_queued_from c p zero a s = done s
audit_queued_from c p (suc left) a s = audit_queued_block c p a s >>= audit_queued_from c p left (a + 1)

-- "21. .. or a pool-queue entry's address + count exceeds the block count (this last added, and tested before its blocks)."
unfoldable pub audit_queued : Container → Pool → Marked Audit → Entry → Reads (Marked Audit)
audit_queued c p s e = do
  r ← run_of e
  _ ← need (leb (r.start + r.count) c.count) Overflow
  audit_queued_from c p r.count r.start s
