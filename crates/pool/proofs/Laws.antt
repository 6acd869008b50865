-- Laws of the pool's bitmap in place, and of what is counted over it.
use Rattle.std.proofs.Common.{◌≡◌, ℕ, zero, suc, ◌+◌, ◌-◌, ◌*◌, ◌/◌, ◌%◌, ◌^◌, ◌<◌, ◌≤◌, Bool, true, false, not, ◌&&◌, ltb, List, [], length, get_or, sym, refl, ap, ◌∙◌, add-zero, mul-le-mul_right, mod-lt, mod-eq_of_lt, suc-add, mul-zero, div-add-mod', zero-add, div-mul-le_self, arith, length-take, le-ltb, lt-ltb}
use native.Mathlib.Nat.{zero-div, mul-add-div_right, div-eq_of_lt, mul-add-mod_self_right}
use native.Mathlib.Decide.{dec_le}
use lib.ListN.{get_or-eq_default}
use Rattle.fields.specs.Choice.{pick}
use Rattle.fields.specs.Fields.{bit, bit_at}
use Rattle.fields.proofs.Laws.{below_limit}
use Rattle.blocks.specs.Blocks.{block_of}
use Rattle.blocks.specs.declared.Container.{Container}
use Rattle.block_map.specs.BlockMap.{used_at}
use Rattle.pool.specs.Pool.{Pool, pool_index, pool_marked, unused_from}
use Rattle.pool.specs.clauses.Unused.{unused_one}
use Rattle.pool.specs.clauses.Place.{ring_place, bitmap_block, block_in, bitmap_byte, bitmap_bytes, bitmap_in, PartOf}
use Rattle.pool.specs.declared.PoolPlace.{PoolPlace}

-- as many bytes as the bitmap's blocks have, each where its block is
module _ (f : ℕ → List ℕ) (size : ℕ) (p : PoolPlace) where
  bytes_length : (left j : ℕ) → length (bitmap_bytes f size p left j) ≡ left
  unfolding bitmap_bytes
  bytes_length zero j = refl
  bytes_length (suc left) j = ap suc (bytes_length left (suc j))

  bytes_at : (left j i : ℕ) → i < left → get_or (bitmap_bytes f size p left j) i 0 ≡ bitmap_byte f size p (j + i)
  unfolding bitmap_bytes
  bytes_at zero j i h = elim h [ ]
  bytes_at (suc left) j zero h = ap (bitmap_byte f size p) (omega arith)
  bytes_at (suc left) j (suc i) h = bytes_at left (suc j) i (omega arith) ∙ ap (bitmap_byte f size p) (omega arith)

  pub bitmap_length : length (bitmap_in f size p) ≡ p.bitmaps * size
  unfolding bitmap_in
  bitmap_length = bytes_length (p.bitmaps * size) 0

  pub bitmap_there : (j : ℕ) → j < p.bitmaps * size → get_or (bitmap_in f size p) j 0 ≡ bitmap_byte f size p j
  unfolding bitmap_in
  bitmap_there j h = bytes_at (p.bitmaps * size) 0 j h ∙ ap (bitmap_byte f size p) (omega arith)

  bitmap_past : (j : ℕ) → p.bitmaps * size ≤ j → get_or (bitmap_in f size p) j 0 ≡ 0
  bitmap_past j h = get_or-eq_default (bitmap_in f size p) 0 (omega (arith, bitmap_length))

  pub byte_none : (j : ℕ) → size ≡ 0 → get_or (bitmap_in f size p) j 0 ≡ 0
  byte_none j e = bitmap_past j (rw (e, mul-zero) (omega arith))

  -- a block by its number
  block_past : (k : ℕ) → p.bitmaps ≤ k → block_in f size p k ≡ []
  unfolding block_in
  block_past k h = rw (le-ltb k p.bitmaps h) refl

  block_there : (k : ℕ) → k < p.bitmaps → (at : ℕ) → at ≡ ring_place f size p k → (b : List ℕ) → b ≡ f (p.ring + at) → b ≡ block_in f size p k
  unfolding block_in bitmap_block
  block_there k h at q b r = rw (r, q, lt-ltb k p.bitmaps h) refl

  -- byte t of block k
  block_byte : (k t : ℕ) → t < size → get_or (block_in f size p k) t 0 ≡ get_or (bitmap_in f size p) (k * size + t) 0
  unfolding bitmap_byte bitmap_block
  block_byte k t h = go (dec_le p.bitmaps k)
    where
      go : Dec (p.bitmaps ≤ k) → get_or (block_in f size p k) t 0 ≡ get_or (bitmap_in f size p) (k * size + t) 0
      go (yes past) = rw (block_past k past, bitmap_past (k * size + t) (omega (arith, mul-le-mul_right size past))) refl
      go (no there) =
          let below : k + 1 ≤ p.bitmaps = omega arith in
          let inside : k * size + t < p.bitmaps * size = omega (arith, mul-le-mul_right size below) in
          rw (bitmap_there (k * size + t) inside, mul-add-div_right {m = size} (omega arith) k t, div-eq_of_lt h, add-zero k, mul-add-mod_self_right k size t, mod-eq_of_lt h, ← block_there k (omega arith) _ refl _ refl) refl

  -- byte j, by its block
  pub byte_in : (j : ℕ) → 0 < size → (b : List ℕ) → b ≡ block_in f size p (j / size) → get_or b (j % size) 0 ≡ get_or (bitmap_in f size p) j 0
  byte_in j some b e = rw e (block_byte (j / size) (j % size) (mod-lt j some) ∙ rw (div-add-mod' j size) refl)

-- the block of a bit starts no later than the bit's byte
pub block_fits : (size i k : ℕ) → k ≡ i / 8 / size → i < 2 ^ 64 → k * size < 2 ^ 64
block_fits size i k e h = rw e (omega (arith, div-mul-le_self (i / 8) size))

-- a block of an image is a part of the bitmap
module _ (image : List ℕ) (size : ℕ) (p : PoolPlace) (k : ℕ) where
  block_most : length (block_in (block_of image size) size p k) ≤ size
  unfolding block_in bitmap_block block_of
  block_most = go (ltb k p.bitmaps)
    where
      go : (t : Bool) → length (pick t (bitmap_block (block_of image size) size p k) []) ≤ size
      go true = simp length-take (omega arith)
      go false = omega arith

  pub block_part : (first : ℕ) → first ≡ k * size → (b : List ℕ) → b ≡ block_in (block_of image size) size p k → PartOf b first (bitmap_in (block_of image size) size p)
  block_part first q b e = rw (q, e) (record { same = λ j h. block_byte (block_of image size) size p k j (omega (arith, block_most)) })

-- the block at a place of the pool, and the place of that block
pub index_of : (base i : ℕ) → i < 2 ^ 64 → pool_index (base + i) base ≡ i
index_of base i h = omega arith

-- a bit by its byte, which was read; a byte 0 has no set bit
pub bit_read_of : (bits : List ℕ) (j b i k : ℕ) (t : Bool) → b ≡ get_or bits j 0 → i / 8 ≡ j → i % 8 ≡ k → t ≡ bit k b → t ≡ bit_at bits i
unfolding bit_at
bit_read_of bits j b i k t p q m r = r ∙ rw (p, q, m) refl

pub bit_none : (bits : List ℕ) (j : ℕ) → get_or bits j 0 ≡ 0 → (i : ℕ) → j * 8 ≤ i → i < j * 8 + 8 → bit_at bits i ≡ false
unfolding bit_at
bit_none bits j z i low high = let at : i / 8 ≡ j = omega arith in rw (at, z, zero-div) refl

-- an unmarked place counts nothing
one_unmarked : (c : Container) (map : List ℕ) (a : ℕ) (marked : Bool) → marked ≡ false → 0 ≡ unused_one c map marked a
unfolding unused_one
one_unmarked c map a marked h = rw h refl

-- the count: what is left from place i on gives the whole
plus_pick : (t : Bool) (n : ℕ) → n + pick t 1 0 ≡ pick t (n + 1) n
plus_pick true n = refl
plus_pick false n = add-zero n

one_more : (t : Bool) (n : ℕ) → pick t (n + 1) n ≤ n + 1
one_more true n = omega arith
one_more false n = omega arith

module _ (c : Container) (p : Pool) (map : List ℕ) where
  -- one place, by its bit
  count_one : (left i n : ℕ) → i < p.blocks → i < 2 ^ 64
      → unused_from c p map (suc left) (p.base + i) n ≡ unused_from c p map left (p.base + (i + 1)) (n + unused_one c map (bit_at p.bits i) (p.base + i))
  unfolding unused_from unused_one pool_marked
  count_one left i n h fits =
      let next : p.base + (i + 1) ≡ p.base + i + 1 = omega arith in rw (next, plus_pick, index_of p.base i fits, ← below_limit i p.blocks (bit_at p.bits i) h) refl

  -- places whose bits are in a byte 0
  pub count_none : (j : ℕ) → get_or p.bits j 0 ≡ 0 → (left i n : ℕ) → j * 8 ≤ i → i + left ≤ j * 8 + 8 → i + left ≤ p.blocks → p.blocks < 2 ^ 64
      → unused_from c p map left (p.base + i) n ≡ n
  unfolding unused_from
  count_none j z zero i n low high inside fits = refl
  count_none j z (suc left) i n low high inside fits =
      count_one left i n (omega arith) (omega arith) ∙ rw (← one_unmarked c map (p.base + i) (bit_at p.bits i) (bit_none p.bits j z i low (omega arith)), add-zero) (count_none j z left (i + 1) n (omega arith) (omega arith) (omega arith) fits)

  -- no more are counted than there are
  count_few : (left a n : ℕ) → unused_from c p map left a n ≤ n + left
  unfolding unused_from
  count_few zero a n = omega arith
  count_few (suc left) a n = let next = count_few left (a + 1) (pick (pool_marked p a && not (used_at c map a)) (n + 1) n) in omega (arith, next, one_more (pool_marked p a && not (used_at c map a)) n)

  -- so many places, and those after them
  count_then : (left more a n : ℕ) → unused_from c p map (left + more) a n ≡ unused_from c p map more (a + left) (unused_from c p map left a n)
  unfolding unused_from
  count_then zero more a n = rw (zero-add, add-zero) refl
  count_then (suc left) more a n =
      let next : a + suc left ≡ a + 1 + left = omega arith in rw (suc-add, next) (count_then left more (a + 1) _)

-- of the places from first to end, those from i on are left, and n are counted: no more than lie before i
pub record Counted (c : Container) (p : Pool) (map : List ℕ) (first end n₀ i n : ℕ) : Type 0 where
  pub whole : unused_from c p map (end - i) (p.base + i) n ≡ unused_from c p map (end - first) (p.base + first) n₀
  pub few : n ≤ i

module _ {c : Container} {p : Pool} {map : List ℕ} {first end n₀ i n : ℕ} (left : Counted c p map first end n₀ i n) where
  pub counted_more : i < end → end ≤ p.blocks → i < 2 ^ 64 → (t : Bool) → t ≡ bit_at p.bits i → (r : ℕ) → r ≡ unused_one c map t (p.base + i) → r ≤ 1 → Counted c p map first end n₀ (i + 1) (n + r)
  counted_more h inside fits t e r q one =
      let more : end - i ≡ suc (end - (i + 1)) = omega arith in
      let below : i < p.blocks = omega arith in record {
        whole = rw (q, e) (sym (count_one c p map (end - (i + 1)) i n below fits) ∙ rw more at left.whole);
        few = omega (arith, left.few);
      }

  pub counted_span : (k : ℕ) → i ≤ k → k ≤ end → (r : ℕ) → r ≡ unused_from c p map (k - i) (p.base + i) n → Counted c p map first end n₀ k r
  counted_span k low high r q =
      let all : end - i ≡ k - i + (end - k) = omega arith in
      let place : p.base + k ≡ p.base + i + (k - i) = omega arith in record {
        whole = rw (q, place) (sym (count_then c p map (k - i) (end - k) (p.base + i) n) ∙ rw all at left.whole);
        few = omega (arith, q, left.few, count_few c p map (k - i) (p.base + i) n);
      }

  pub counted_done : end ≤ i → n ≡ unused_from c p map (end - first) (p.base + first) n₀
  unfolding unused_from
  counted_done h = let none : end - i ≡ 0 = omega arith in rw none at left.whole
