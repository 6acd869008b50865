-- Laws of a manager's bytes in place.
use mathlib.Core.Path.{◌≡◌, refl, sym, ap, ◌∙◌}
use mathlib.Core.Bool.{true}
use mathlib.Core.List.{List, []}
use Prim.Native.Nat.{ℕ, zero, suc, ◌+◌, ◌-◌, ◌*◌, ◌/◌, ◌%◌, ◌^◌, ◌≤◌, ◌<◌, min}
use native.Mathlib.Omega.{arith}
use native.Mathlib.Nat.{lt_of_lt_of_le, mul-suc, add-zero, mul-add-div_right, mul-add-mod_self_right, div-add-mod', div-eq_of_lt, mod-eq_of_lt}
use lib.Dec.{leb}
use lib.ListN.{length, take, drop, get_or, length-take, length-drop, get_or-eq_default, drop_of_length-le}
use lib.Seq.{take-nil, get_or-take, get_or-drop, ext_get_or}
use lib.Pow.{pow-add, pow_mono}
use borrow.Author.Tests.{leb-true}
use Rattle.fields.specs.clauses.Numbers.{NumberAt}
use Rattle.fields.specs.Fields.{le, num}
use Rattle.fields.proofs.Laws.{num_more}
use Rattle.blocks.specs.Blocks.{block_of}
use Rattle.manager.specs.clauses.Place.{address_in, byte_in, bytes_from, placed, bytes_of}
use Rattle.manager.specs.declared.Manager.{Manager}

-- as many bytes as the manager has, each where its block is
module _ (f : ℕ → List ℕ) (size : ℕ) (m : Manager) where
  bytes_length : (left j : ℕ) → length (bytes_from f size m left j) ≡ left
  unfolding bytes_from
  bytes_length zero j = refl
  bytes_length (suc left) j = ap suc (bytes_length left (suc j))

  bytes_at : (left j i : ℕ) → i < left → get_or (bytes_from f size m left j) i 0 ≡ byte_in f size m (j + i)
  unfolding bytes_from
  bytes_at zero j i h = elim h [ ]
  bytes_at (suc left) j zero h = ap (byte_in f size m) (omega arith)
  bytes_at (suc left) j (suc i) h = bytes_at left (suc j) i (omega arith) ∙ ap (byte_in f size m) (omega arith)

  pub placed_length : length (placed f size m) ≡ m.size
  unfolding placed
  placed_length = bytes_length m.size 0

  pub placed_there : (j : ℕ) → j < m.size → get_or (placed f size m) j 0 ≡ byte_in f size m j
  unfolding placed
  placed_there j h = bytes_at m.size 0 j h ∙ ap (byte_in f size m) (omega arith)

  pub placed_past : (j : ℕ) → m.size ≤ j → get_or (placed f size m) j 0 ≡ 0
  placed_past j h = get_or-eq_default (placed f size m) 0 (omega (arith, placed_length))

-- a byte in place is that byte of its block
module _ (image : List ℕ) (size : ℕ) (m : Manager) (j : ℕ) (h : j < m.size) where
  pub byte_there : (b : List ℕ) → b ≡ block_of image size (address_in m (j / size)) → get_or (bytes_of image size m) j 0 ≡ get_or b (j % size) 0
  unfolding byte_in
  byte_there b e = placed_there (block_of image size) size m j h ∙ rw e refl

  pub byte_none : size ≡ 0 → get_or (bytes_of image size m) j 0 ≡ 0
  unfolding byte_in block_of
  byte_none e = placed_there (block_of image size) size m j h ∙ rw e refl

-- a byte of the manager's block n
module _ (f : ℕ → List ℕ) (size : ℕ) (m : Manager) where
  byte_of : (n k : ℕ) → k < size → byte_in f size m (n * size + k) ≡ get_or (f (address_in m n)) k 0
  unfolding byte_in
  byte_of n k h = rw (mul-add-div_right {m = size} (omega arith) n k, div-eq_of_lt h, add-zero n, mul-add-mod_self_right n size k, mod-eq_of_lt h) refl

-- a part within one block, of which no more bytes are there than the block size
module _ (f : ℕ → List ℕ) (size : ℕ) (m : Manager) (pos l : ℕ) (b : List ℕ) (e : b ≡ f (address_in m (pos / size)))
    (most : length b ≤ size) (room : pos % size + l ≤ length b) (fits : pos + l ≤ m.size) where
  pub piece_is : take l (drop (pos % size) b) ≡ take l (drop pos (placed f size m))
  piece_is = ext_get_or 0 _ _ (len ∙ sym len') (λ i h. at i (omega (arith, len)))
    where
      len : length (take l (drop (pos % size) b)) ≡ l
      len = simp (length-take, length-drop) (omega arith)

      len' : length (take l (drop pos (placed f size m))) ≡ l
      len' = simp (length-take, length-drop, placed_length) (omega arith)

      at : (i : ℕ) → i < l → get_or (take l (drop (pos % size) b)) i 0 ≡ get_or (take l (drop pos (placed f size m))) i 0
      at i h =
          let e' : pos / size * size + (pos % size + i) ≡ pos + i = omega (arith, div-add-mod' pos size) in
          rw (get_or-take l (drop (pos % size) b) i 0 h, get_or-drop, get_or-take l (drop pos (placed f size m)) i 0 h, get_or-drop, placed_there f size m (pos + i) (omega arith), ← e', byte_of f size m (pos / size) (pos % size + i) (omega arith), e) refl

-- a block number past every byte of an image
pub block_past : (image : List ℕ) (size n : ℕ) → length image ≤ n → [] ≡ block_of image size n
unfolding block_of
block_past image zero n h = refl
block_past image (suc size) n h = rw (drop_of_length-le image past, take-nil) refl
  where
    past : length image ≤ n * suc size
    past = rw (mul-suc n size) (omega arith)

-- a number with one byte more before it
pub number_more : (sm : List ℕ) (off w k v b : ℕ) → 0 < k → k ≤ w → NumberAt (w - k) sm (off + k) v → b ≡ get_or sm (off + (k - 1)) 0 → b < 256
    → NumberAt (w - (k - 1)) sm (off + (k - 1)) (v * 256 + b)
number_more sm off w k v b h l n is small = record {
  is = rw (num_more sm off w k h l) (rw (n.is, is));
  fits = let e : 8 * (w - (k - 1)) ≡ 8 * (w - k) + 8 = omega arith in rw (e, pow-add 2 (8 * (w - k)) 8) (omega (arith, n.fits));
}

-- a turn of the reader's loop finds at most seven bytes read
pub room : (w k v : ℕ) → w ≤ 8 → 0 < k → v < 2 ^ (8 * (w - k)) → v < 2 ^ 56
room w k v h l fits = lt_of_lt_of_le fits (pow_mono {j = 56} (omega arith))

-- no block has more bytes than the block size
block_most : (image : List ℕ) (size n : ℕ) → length (block_of image size n) ≤ size
unfolding block_of
block_most image size n = simp length-take (omega arith)

-- a field of at most eight bytes within one block is the block's own
pub number_in : (image : List ℕ) (size : ℕ) (m : Manager) (off w index at : ℕ) (b : List ℕ) (r : ℕ) → w ≤ 8 → index ≡ off / size → at ≡ off % size
    → b ≡ block_of image size (address_in m index) → leb (off + w) m.size ≡ true → leb (at + w) (length b) ≡ true
    → NumberAt (min w 8) b at r → NumberAt w (bytes_of image size m) off r
unfolding num
number_in image size m off w index at b r few p q e inside room found = record { is = n.is ∙ rw q (ap le same); fits = n.fits }
  where
    n : NumberAt w b at r
    n = let all : min w 8 ≡ w = omega arith in rw all at found

    most : length b ≤ size
    most = rw e (block_most image size (address_in m index))

    same : take w (drop (off % size) b) ≡ take w (drop off (bytes_of image size m))
    same = piece_is (block_of image size) size m off w b (rw (← p) e) most (leb-true _ _ (rw (← q) room)) (leb-true _ _ inside)
