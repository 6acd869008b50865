-- The loader's steps, each as one function of the code makes it.
use Rattle.std.specs.Prelude.{◌≡◌, ℕ, List, [], Result}
use Rattle.std.specs.Borrow.{Bor}
use Rattle.blocks.specs.Reads.{Reads, ◌>>=◌, run}
use Rattle.blocks.specs.Blocks.{read_raw, sum}
use Rattle.blocks.specs.clauses.Answers.{there_as}
use Rattle.blocks.specs.clauses.Images.{Lent, blocks_in}
use Rattle.blocks.specs.declared.Container.{Container}
use Rattle.blocks.specs.declared.Refusal.{Refusal}
use Rattle.manager.specs.Manager.{pool_base, pool_blocks, pool_ring_base, pool_bitmaps, pool_indices_at}
use Rattle.manager.specs.clauses.Place.{placed, manager_on}
use Rattle.manager.specs.clauses.Lists.{values}
use Rattle.manager.specs.clauses.Load.{read_each, joined}
use Rattle.manager.specs.declared.Manager.{Manager}
use Rattle.pool.specs.Pool.{Pool}
use Rattle.pool.specs.clauses.Place.{ring_place, bitmap_block, pool_in}
use Rattle.pool.specs.declared.PoolPlace.{PoolPlace}

-- where a manager's fields put the pool
abbrev pub place_in : List ℕ → Manager → PoolPlace
place_in sm m = record { manager = m; base = pool_base sm; blocks = pool_blocks sm; ring = pool_ring_base sm; bitmaps = pool_bitmaps sm; indices = pool_indices_at sm }

abbrev pub place_on : Lent → Container → Manager → PoolPlace
place_on image c m = place_in (manager_on image c m) m

-- the places in the ring of n blocks, and of all
abbrev pub places : (ℕ → List ℕ) → ℕ → PoolPlace → ℕ → List ℕ
places f size p n = values 2 (placed f size p.manager) n p.indices

abbrev pub indices_on : Lent → Container → PoolPlace → List ℕ
indices_on image c p = places (blocks_in image.entry c) c.size p p.bitmaps

-- block i of the bitmap, as the definition reads it
unfoldable pub read_bitmap : (ℕ → List ℕ) → Container → PoolPlace → ℕ → Reads (List ℕ)
read_bitmap f c p i = sum p.ring (ring_place f c.size p i) >>= λ a. read_raw c (record { 0 = a })

-- it, and whether the first n may be read
abbrev pub BitmapSeen : (ℕ → List ℕ) → Container → PoolPlace → ℕ → Result (Bor (List ℕ)) Refusal → Type 0
BitmapSeen f c p i r = there_as (bitmap_block f c.size p i) r ≡ run f (read_bitmap f c p i)

abbrev pub BitmapsSeen : (ℕ → List ℕ) → Container → PoolPlace → ℕ → Result (Unit {0}) Refusal → Type 0
BitmapsSeen f c p n r = there_as (joined (bitmap_block f c.size p) n) r ≡ run f (read_each (read_bitmap f c p) n 0 [])

-- whether the pool at a place may be used is what the definition says
abbrev pub LoadsPool : Lent → Container → PoolPlace → Result (Unit {0}) Refusal → Reads Pool → Type 0
LoadsPool image c p r defined = let f = blocks_in image.entry c in there_as (pool_in f c.size p) r ≡ run f defined
