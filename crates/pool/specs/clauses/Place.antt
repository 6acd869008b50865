-- The pool where it stands: its bitmap is blocks of a ring, found through the manager's list of indices and read in place.
use Rattle.std.specs.Prelude.{◌≡◌, ℕ, zero, suc, ◌+◌, ◌*◌, ◌/◌, ◌%◌, ◌<◌, List, [], ◌∷◌, length, nat_lt, slice_index}
use Rattle.std.specs.Borrow.{Bor}
use Rattle.fields.specs.Choice.{pick}
use Rattle.fields.specs.Fields.{num}
use Rattle.blocks.specs.clauses.Images.{Lent, blocks_in}
use Rattle.blocks.specs.declared.Container.{Container}
use Rattle.manager.specs.clauses.Place.{placed}
use Rattle.pool.specs.Pool.{Pool}
use Rattle.pool.specs.declared.PoolPlace.{PoolPlace}

-- where block i of the bitmap is in its ring, and that block
abbrev pub ring_place : (ℕ → List ℕ) → ℕ → PoolPlace → ℕ → ℕ
ring_place f size p i = num 2 (placed f size p.manager) (p.indices + 2 * i)

unfoldable pub bitmap_block : (ℕ → List ℕ) → ℕ → PoolPlace → ℕ → List ℕ
bitmap_block f size p i = f (p.ring + ring_place f size p i)

-- that block, or none past the bitmap's end
unfoldable pub block_in : (ℕ → List ℕ) → ℕ → PoolPlace → ℕ → List ℕ
block_in f size p k = pick (nat_lt k p.bitmaps) (bitmap_block f size p k) []

-- byte j of the bitmap
unfoldable pub bitmap_byte : (ℕ → List ℕ) → ℕ → PoolPlace → ℕ → ℕ
bitmap_byte f size p j = slice_index (bitmap_block f size p (j / size)) (j % size)

-- the bytes from j on, of which left are left
unfoldable pub bitmap_bytes : (ℕ → List ℕ) → ℕ → PoolPlace → ℕ → ℕ → List ℕ
bitmap_bytes f size p zero j = []
bitmap_bytes f size p (suc left) j = bitmap_byte f size p j ∷ bitmap_bytes f size p left (suc j)

unfoldable pub bitmap_in : (ℕ → List ℕ) → ℕ → PoolPlace → List ℕ
bitmap_in f size p = bitmap_bytes f size p (p.bitmaps * size) 0

-- a part of a bitmap: its bytes from number first on
pub record PartOf (part : List ℕ) (first : ℕ) (whole : List ℕ) : Type 0 where
  pub same : (j : ℕ) → j < length part → slice_index part j ≡ slice_index whole (first + j)

abbrev pub pool_in : (ℕ → List ℕ) → ℕ → PoolPlace → Pool
pool_in f size p = record { base = p.base; blocks = p.blocks; bits = bitmap_in f size p }

-- the pool of an image that was lent, its bitmap, and a block of that
abbrev pub pool_on : Lent → Container → PoolPlace → Pool
pool_on image c p = pool_in (blocks_in image.entry c) c.size p

abbrev pub bitmap_on : Lent → Container → PoolPlace → List ℕ
bitmap_on image c p = bitmap_in (blocks_in image.entry c) c.size p

abbrev pub bitmap_block_on : Lent → Container → PoolPlace → ℕ → List ℕ
bitmap_block_on image c p k = block_in (blocks_in image.entry c) c.size p k

-- bytes at hand are the bitmap's from number first on
abbrev pub PartAt : Bor (List ℕ) → Container → PoolPlace → Bor (List ℕ) → ℕ → Type 0
PartAt image c p part first = PartOf part.now first (bitmap_in (blocks_in image c) c.size p)
