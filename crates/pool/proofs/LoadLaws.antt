-- Laws of the loader: the blocks of the bitmap, the bytes that they are, and its tests.
use Rattle.std.specs.Prelude.{Ok}
use Rattle.std.specs.Int.{div_ceil}
use Rattle.std.proofs.lemmas.Grind.{div_ceil_times}
use native.Mathlib.Decide.{dec_le}
use native.Mathlib.Nat.{mul-le-mul_right, add-mul, one-mul}
use Rattle.std.proofs.Common.{◌≡◌, ℕ, zero, suc, ◌+◌, ◌-◌, ◌*◌, ◌<◌, ◌≤◌, Bool, true, false, leb, List, [], ◌++◌, length, get_or, sym, refl, ap, ◌∙◌, add-zero, arith, ext_get_or, le-leb}
use borrow.Author.Tests.{lt-leb}
use Rattle.blocks.specs.Reads.{run, given, refused, ◌>>=◌}
use Rattle.blocks.specs.Blocks.{block_of, read_raw, sum}
use Rattle.blocks.specs.clauses.Images.{Holds}
use Rattle.blocks.specs.declared.Container.{Container}
use Rattle.blocks.specs.declared.Refusal.TheVariants.{BadBitmap}
use Rattle.blocks.proofs.Laws.{then_given, need_true, need_false, both, bind_assoc, block_length}
use Rattle.manager.specs.clauses.Place.{placed}
use Rattle.manager.specs.clauses.Lists.{values}
use Rattle.pool.specs.Pool.{bitmaps_from, pool_from}
use Rattle.pool.specs.clauses.Place.{ring_place, bitmap_block, bitmap_byte, bitmap_in, pool_in}
use Rattle.pool.specs.clauses.Load.{places, read_bitmap, BitmapsSeen}
use Rattle.manager.specs.clauses.Load.{read_each, joined}
use Rattle.pool.specs.declared.PoolPlace.{PoolPlace}
use Rattle.manager.proofs.LoadLaws.{sum_given, raw_given, each_given, joined_length, joined_at}
use Rattle.pool.proofs.Laws.{bitmap_length, bitmap_there}

-- the blocks are those that the definition reads
module _ (f : ℕ → List ℕ) (c : Container) (p : PoolPlace) where
  from_each : (left i : ℕ) (found : List ℕ) → bitmaps_from c p.ring (values 2 (placed f c.size p.manager) left (p.indices + 2 * i)) found ≡ read_each (read_bitmap f c p) left i found
  unfolding bitmaps_from values read_each read_bitmap
  from_each zero i found = refl
  from_each (suc left) i found =
      let onwards : p.indices + 2 * i + 2 ≡ p.indices + 2 * (i + 1) = omega arith in
      rw onwards ((λ j. sum p.ring (ring_place f c.size p i) >>= λ a. read_raw c (record { 0 = a }) >>= λ b. from_each left (i + 1) (found ++ b) j) ∙ sym (bind_assoc _ _ _))

  pub blocks_go : run f (bitmaps_from c p.ring (places f c.size p p.bitmaps) []) ≡ run f (read_each (read_bitmap f c p) p.bitmaps 0 [])
  blocks_go = ap (run f) (rw add-zero at (from_each p.bitmaps 0 []))

  block_given : (i : ℕ) (b : List ℕ) → run f (read_bitmap f c p i) ≡ given b → p.ring + ring_place f c.size p i < c.count
  unfolding read_bitmap
  block_given i b e = let a = both f (sum p.ring (ring_place f c.size p i)) _ b e in
      rw (sum_given f _ _ _ a.came) (raw_given f c (record { 0 = a.first }) b a.rest)

-- every block of the bitmap was there with all its bytes, so that they are the bytes in place
module _ (image : List ℕ) (c : Container) (p : PoolPlace) (holds : Holds image c) (seen : BitmapsSeen (block_of image c.size) c p p.bitmaps (Ok tt)) where
  abbrev f : ℕ → List ℕ
  f = block_of image c.size

  there : (i : ℕ) → i < p.bitmaps → length (bitmap_block f c.size p i) ≡ c.size
  unfolding bitmap_block
  there i h = block_length image c.size c.count _ holds.fits (each_given f (read_bitmap f c p) (λ k. p.ring + ring_place f c.size p k < c.count) (block_given f c p) p.bitmaps 0 [] _ (sym seen) i (omega arith) (omega arith))

  joined_in : joined (bitmap_block f c.size p) p.bitmaps ≡ bitmap_in f c.size p
  unfolding bitmap_byte
  joined_in = ext_get_or 0 _ _ (len ∙ sym (bitmap_length f c.size p)) (λ j h. at j (omega (arith, len)))
    where
      len : length (joined (bitmap_block f c.size p) p.bitmaps) ≡ p.bitmaps * c.size
      len = joined_length (bitmap_block f c.size p) c.size p.bitmaps there

      at : (j : ℕ) → j < p.bitmaps * c.size → get_or (joined (bitmap_block f c.size p) p.bitmaps) j 0 ≡ get_or (bitmap_in f c.size p) j 0
      at j h = joined_at (bitmap_block f c.size p) c.size p.bitmaps there j h ∙ sym (bitmap_there f c.size p j h)

  -- the pool, by whether its bitmap has a bit for each block
  module _ (t : Bool) (k : t ≡ leb p.blocks (p.bitmaps * c.size * 8)) where
    bits : run f (bitmaps_from c p.ring (places f c.size p p.bitmaps) []) ≡ given (bitmap_in f c.size p)
    bits = blocks_go f c p ∙ sym seen ∙ ap given joined_in

    enough : leb p.blocks (length (bitmap_in f c.size p) * 8) ≡ t
    enough = rw (bitmap_length f c.size p) (sym k)

    pub pool_given : t ≡ true → given (pool_in f c.size p) ≡ run f (pool_from c p.ring p.base p.blocks (places f c.size p p.bitmaps))
    unfolding run pool_from
    pool_given h = sym (then_given f _ _ _ bits ∙ need_true f _ _ _ (enough ∙ h))

    pub pool_short : t ≡ false → refused BadBitmap ≡ run f (pool_from c p.ring p.base p.blocks (places f c.size p p.bitmaps))
    unfolding pool_from
    pool_short h = sym (then_given f _ _ _ bits ∙ need_false f _ _ _ (enough ∙ h))

-- a product is large enough where the quotient, rounded up, is small enough
pub ceil_fits : (a b n : ℕ) → 0 < b → leb (div_ceil a b) n ≡ leb a (n * b)
ceil_fits a b n h = go (dec_le (div_ceil a b) n)
  where
    go : Dec (div_ceil a b ≤ n) → leb (div_ceil a b) n ≡ leb a (n * b)
    go (yes l) = le-leb _ _ l ∙ sym (le-leb _ _ (omega (arith, div_ceil_times a b h, mul-le-mul_right b l)))
    go (no l) =
        let k : n + 1 ≤ div_ceil a b = omega arith in
        lt-leb _ _ (omega arith) ∙ sym (lt-leb _ _ (omega (arith, div_ceil_times a b h, mul-le-mul_right b k, add-mul n 1 b, one-mul b)))
