-- The space manager's bytes, its fields and lists, and the list of an address block.
use Rattle.std.specs.Prelude.{Bool, Option, Some, None, List, [], ◌∷◌, ◌++◌, ℕ, zero, suc, ◌+◌, ◌-◌, ◌/◌, ◌%◌, max, leb, ltb, length, take}
use Rattle.fields.specs.Choice.{pick}
use Rattle.fields.specs.Fields.{num}
use Rattle.fletcher.specs.Fletcher.{verifies}
use Rattle.blocks.specs.Reads.{Reads, done, refuse, ◌>>=◌, need}
use Rattle.blocks.specs.Blocks.{read_raw, field, sum}
use Rattle.blocks.specs.declared.Container.{Container}
use Rattle.blocks.specs.declared.ObjectId.{ObjectId}
use Rattle.blocks.specs.declared.Refusal.TheVariants.{BadChecksum, Unmapped, OutsideBytes, Overflow}
use Rattle.checkpoint.specs.Superblock.{data_base, data_blocks, manager_id, without_top_bit}
use Rattle.checkpoint.specs.declared.Mapping.{Mapping}

-- the main device: its chunk-info blocks, its address blocks, its free blocks, and where its list stands
abbrev pub chunk_info_count : List ℕ → ℕ
chunk_info_count sm = num 4 sm 64

abbrev pub address_block_count : List ℕ → ℕ
address_block_count sm = num 4 sm 68

abbrev pub device_free : List ℕ → ℕ
device_free sm = num 8 sm 72

abbrev pub listed_at : List ℕ → ℕ
listed_at sm = num 4 sm 80

-- the internal pool, the blocks of its bitmap, and the ring that these lie in
abbrev pub pool_blocks : List ℕ → ℕ
pool_blocks sm = num 8 sm 152

abbrev pub pool_bitmaps : List ℕ → ℕ
pool_bitmaps sm = num 4 sm 160

abbrev pub pool_ring_blocks : List ℕ → ℕ
pool_ring_blocks sm = num 4 sm 164

abbrev pub pool_ring_base : List ℕ → ℕ
pool_ring_base sm = num 8 sm 168

abbrev pub pool_base : List ℕ → ℕ
pool_base sm = num 8 sm 176

abbrev pub pool_indices_at : List ℕ → ℕ
pool_indices_at sm = num 4 sm 328

-- document 02, "which bitmap blocks of the ring are unused": the list's head and tail, and where the table that leads along it stands
abbrev pub free_head : List ℕ → ℕ
free_head sm = num 2 sm 320

abbrev pub free_tail : List ℕ → ℕ
free_tail sm = num 2 sm 322

abbrev pub free_next_at : List ℕ → ℕ
free_next_at sm = num 4 sm 332

-- the roots of the pool queue (0) and of the main queue (1)
abbrev pub pool_queue : List ℕ → ObjectId
pool_queue sm = record { 0 = num 8 sm 208 }

abbrev pub main_queue : List ℕ → ObjectId
main_queue sm = record { 0 = num 8 sm 248 }

-- "ring length (the taken superblock's; top bit dropped, 0 counts as 1)"
abbrev pub ring_length : ℕ → ℕ
ring_length stored = max (without_top_bit stored) 1

abbrev pub data_ring : List ℕ → ℕ
data_ring sb = ring_length (data_blocks sb)

-- "its block i at data base + (mapped address − data base + i) mod ring length":
-- "21. .. the manager's mapped address is below the data base"
unfoldable pub manager_from : Container → List ℕ → ℕ → ℕ → ℕ → List ℕ → Reads (List ℕ)
manager_from c sb at zero i found = done found
manager_from c sb at (suc left) i found = do
  _ ← need (leb (data_base sb) at) Overflow
  o ← sum (at - data_base sb) i
  a ← sum (data_base sb) (o % data_ring sb)
  b ← read_raw c (record { 0 = a })
  manager_from c sb at left (i + 1) (found ++ b)

-- how many blocks an object of n bytes takes
abbrev pub blocks_for : Container → ℕ → ℕ
blocks_for c n = (n + (c.size - 1)) / c.size

-- "It needs 344 bytes."
abbrev pub least_manager : ℕ
least_manager = 344

-- "verified as one object; size 0 gives 13", which is no object that verifies
unfoldable pub accepted : List ℕ → Reads (List ℕ)
accepted sm = do
  _ ← need (verifies sm) BadChecksum
  _ ← need (leb least_manager (length sm)) OutsideBytes
  done sm

-- the manager at a mapping's address, of its size
unfoldable pub manager_at : Container → List ℕ → Mapping → Reads (List ℕ)
manager_at c sb m = manager_from c sb m.address.0 (blocks_for c m.size) 0 [] >>= λ bs. accepted (take m.size bs)

-- "16. A needed object id isn't in the checkpoint map."
unfoldable pub manager_by : Container → List ℕ → Option Mapping → Reads (List ℕ)
manager_by c sb None = refuse Unmapped
manager_by c sb (Some m) = manager_at c sb m

-- the manager that the superblock names by its id; mapped is what the checkpoint map has for one
unfoldable pub manager : Container → List ℕ → (ObjectId → Option Mapping) → Reads (List ℕ)
manager c sb mapped = manager_by c sb (mapped (manager_id sb))

-- "A list of indices, addresses or records is read whole before the first block it names": left fields of w bytes from off on
unfoldable pub list_from : ℕ → List ℕ → ℕ → ℕ → Reads (List ℕ)
list_from w sm zero off = done []
list_from w sm (suc left) off = do
  x ← field w sm off
  xs ← list_from w sm left (off + w)
  done (x ∷ xs)

-- the indices of the pool's bitmap blocks in their ring
abbrev pub pool_indices : List ℕ → Reads (List ℕ)
pool_indices sm = list_from 2 sm (pool_bitmaps sm) (pool_indices_at sm)

-- document 02, "the free-next table": an index for each block of the ring
abbrev pub free_next : List ℕ → Reads (List ℕ)
free_next sm = list_from 2 sm (pool_ring_blocks sm) (free_next_at sm)

-- document 02: "address blocks above their chunk-info blocks .. the manager's list then names address blocks", as many as it counts
abbrev pub has_address_blocks : List ℕ → Bool
has_address_blocks sm = ltb 0 (address_block_count sm)

abbrev pub listed_count : List ℕ → ℕ
listed_count sm = pick (has_address_blocks sm) (address_block_count sm) (chunk_info_count sm)

-- the main device's list: the addresses of its address blocks, or else of its chunk-info blocks
abbrev pub listed : List ℕ → Reads (List ℕ)
listed sm = list_from 8 sm (listed_count sm) (listed_at sm)

-- an address block; document 02: "a count at byte 36 and 8-byte addresses of chunk-info blocks from byte 40, as `cib_addrs` reads
-- them", which takes a count of 4 bytes
abbrev pub address_count : List ℕ → ℕ
address_count b = num 4 b 36

abbrev pub addresses_at : ℕ
addresses_at = 40

abbrev pub addresses_of : List ℕ → Reads (List ℕ)
addresses_of b = list_from 8 b (address_count b) addresses_at
