-- Laws of stores: what they leave untouched, and what the finished image holds.
use mathlib.Core.Path.{◌≡◌, refl, sym, ap, ◌∙◌}
use mathlib.Core.Bool.{Bool, true, false, not, ◌&&◌, ◌||◌, true≢false}
use mathlib.Core.List.{List, [], ◌∷◌}
use Prim.Native.Nat.{ℕ, zero, suc, ◌+◌, ◌-◌, ◌*◌, ◌≤◌, ◌<◌}
use native.Mathlib.Omega.{arith}
use native.Mathlib.Nat.{add-zero, suc-add, zero-add, sub-zero, le_of_suc-le-suc, not-suc-le-zero}
use lib.Dec.{leb, ltb, eqb}
use lib.ListN.{length, get_or, drop, length-take, length-drop}
use lib.Seq.{ext_get_or, get_or-take, get_or-drop}
use borrow.Author.Tests.{leb-true, leb-false, ltb-true, ltb-false, eqb-true}
use Rattle.fields.specs.Choice.{pick}
use Rattle.blocks.specs.Blocks.{block_of}
use Rattle.blocks.proofs.Laws.{and_left, and_right}
use Rattle.commit.specs.Stores.{Store, CutOf, covers, touched, touched_from, block_touched, final_byte, overwrite, finished, complete_from, complete}

pub or_left : (a b : Bool) → (a || b) ≡ false → a ≡ false
or_left true b e = e
or_left false b e = refl

pub or_right : (a b : Bool) → (a || b) ≡ false → b ≡ false
or_right true b e = absurd (true≢false e)
or_right false b e = e

pub not_true : (a : Bool) → not a ≡ true → a ≡ false
not_true true e = sym e
not_true false e = refl

-- no byte of an untouched run is touched
untouched_at : (ss : List Store) (left i : ℕ) → touched_from ss left i ≡ false → (j : ℕ) → j < left → touched ss (i + j) ≡ false
unfolding touched_from
untouched_at ss zero i e j h = absurd (not-suc-le-zero h)
untouched_at ss (suc left) i e zero h = rw add-zero (or_left (touched ss i) (touched_from ss left (i + 1)) e)
untouched_at ss (suc left) i e (suc j) h =
    let same : i + 1 + j ≡ i + suc j = omega arith in
    rw same at (untouched_at ss left (i + 1) (or_right (touched ss i) (touched_from ss left (i + 1)) e) j (le_of_suc-le-suc h))

-- an untouched block is at each cut what it was
module _ {ss : List Store} {image cut : List ℕ} (c : CutOf ss image cut) (size n : ℕ) (e : block_touched ss size n ≡ false) where
  block_length : length (block_of cut size n) ≡ length (block_of image size n)
  unfolding block_of
  block_length = simp (length-take, length-drop, c.same_length)

  block_byte : (j : ℕ) → j < size → get_or (block_of cut size n) j 0 ≡ get_or (block_of image size n) j 0
  unfolding block_of block_touched
  block_byte j h = simp (get_or-take, get_or-drop) (c.kept (n * size + j) (untouched_at ss size (n * size) e j h))

  block_short : (j : ℕ) → j < length (block_of cut size n) → j < size
  unfolding block_of
  block_short j h = omega (arith, length-take size (drop (n * size) cut))

  pub block_same : block_of cut size n ≡ block_of image size n
  block_same = ext_get_or 0 _ _ block_length (λ j h. block_byte j (block_short j h))

-- what a store leaves

overwrite_length : (at : ℕ) (bytes image : List ℕ) → length (overwrite at bytes image) ≡ length image
unfolding overwrite
overwrite_length at bytes [] = refl
overwrite_length zero [] (x ∷ image) = refl
overwrite_length zero (b ∷ bytes) (x ∷ image) = ap suc (overwrite_length zero bytes image)
overwrite_length (suc at) bytes (x ∷ image) = ap suc (overwrite_length at bytes image)

overwrite_front : (bytes image : List ℕ) (i : ℕ) → i < length bytes → i < length image → get_or (overwrite zero bytes image) i 0 ≡ get_or bytes i 0
unfolding overwrite
overwrite_front bytes [] i h k = absurd (not-suc-le-zero k)
overwrite_front [] (x ∷ image) i h k = absurd (not-suc-le-zero h)
overwrite_front (b ∷ bytes) (x ∷ image) zero h k = refl
overwrite_front (b ∷ bytes) (x ∷ image) (suc i) h k = overwrite_front bytes image i (le_of_suc-le-suc h) (le_of_suc-le-suc k)

overwrite_inside : (at : ℕ) (bytes image : List ℕ) (i : ℕ) → at ≤ i → i < at + length bytes → i < length image → get_or (overwrite at bytes image) i 0 ≡ get_or bytes (i - at) 0
unfolding overwrite
overwrite_inside at bytes [] i l h k = absurd (not-suc-le-zero k)
overwrite_inside zero bytes (x ∷ image) i l h k = rw sub-zero (overwrite_front bytes (x ∷ image) i (omega arith) k)
overwrite_inside (suc at) bytes (x ∷ image) zero l h k = absurd (not-suc-le-zero l)
overwrite_inside (suc at) bytes (x ∷ image) (suc i) l h k =
    let same : suc i - suc at ≡ i - at = omega arith in
    rw same (overwrite_inside at bytes image i (le_of_suc-le-suc l) (omega arith) (le_of_suc-le-suc k))

overwrite_before : (at : ℕ) (bytes image : List ℕ) (i : ℕ) → i < at → get_or (overwrite at bytes image) i 0 ≡ get_or image i 0
unfolding overwrite
overwrite_before at bytes [] i h = refl
overwrite_before zero bytes (x ∷ image) i h = absurd (not-suc-le-zero h)
overwrite_before (suc at) bytes (x ∷ image) zero h = refl
overwrite_before (suc at) bytes (x ∷ image) (suc i) h = overwrite_before at bytes image i (le_of_suc-le-suc h)

overwrite_after : (at : ℕ) (bytes image : List ℕ) (i : ℕ) → at + length bytes ≤ i → get_or (overwrite at bytes image) i 0 ≡ get_or image i 0
unfolding overwrite
overwrite_after at bytes [] i h = refl
overwrite_after zero [] (x ∷ image) i h = refl
overwrite_after zero (b ∷ bytes) (x ∷ image) zero h = absurd (not-suc-le-zero (rw zero-add at h))
overwrite_after zero (b ∷ bytes) (x ∷ image) (suc i) h = overwrite_after zero bytes image i (omega arith)
overwrite_after (suc at) bytes (x ∷ image) zero h = absurd (not-suc-le-zero (rw suc-add at h))
overwrite_after (suc at) bytes (x ∷ image) (suc i) h = overwrite_after at bytes image i (omega arith)

store_byte : (s : Store) (image : List ℕ) (i : ℕ) → i < length image → get_or (overwrite s.at s.bytes image) i 0 ≡ pick (covers s i) (get_or s.bytes (i - s.at) 0) (get_or image i 0)
store_byte s image i k = go (leb s.at i) refl (ltb i (s.at + length s.bytes)) refl
  where
    go : (a : Bool) → leb s.at i ≡ a → (b : Bool) → ltb i (s.at + length s.bytes) ≡ b
        → get_or (overwrite s.at s.bytes image) i 0 ≡ pick (a && b) (get_or s.bytes (i - s.at) 0) (get_or image i 0)
    go true p true q = overwrite_inside s.at s.bytes image i (leb-true s.at i p) (ltb-true i (s.at + length s.bytes) q) k
    go true p false q = overwrite_after s.at s.bytes image i (ltb-false i (s.at + length s.bytes) q)
    go false p b q = overwrite_before s.at s.bytes image i (leb-false s.at i p)

-- the finished image

pub finished_length : (ss : List Store) (image : List ℕ) → length (finished ss image) ≡ length image
unfolding finished
finished_length [] image = refl
finished_length (s ∷ ss) image = finished_length ss (overwrite s.at s.bytes image) ∙ overwrite_length s.at s.bytes image

pub finished_byte : (ss : List Store) (image : List ℕ) (i : ℕ) → i < length image → get_or (finished ss image) i 0 ≡ final_byte ss i (get_or image i 0)
unfolding finished final_byte
finished_byte [] image i h = refl
finished_byte (s ∷ ss) image i h =
    finished_byte ss (overwrite s.at s.bytes image) i (rw (overwrite_length s.at s.bytes image) h) ∙ ap (final_byte ss i) (store_byte s image i h)

-- an untouched byte keeps what it held, and a touched one's final content does not hang on that
final_untouched : (ss : List Store) (i x : ℕ) → touched ss i ≡ false → final_byte ss i x ≡ x
unfolding touched final_byte
final_untouched [] i x e = refl
final_untouched (s ∷ ss) i x e = rw (or_left (covers s i) (touched ss i) e) (final_untouched ss i x (or_right (covers s i) (touched ss i) e))

pub final_touched : (ss : List Store) (i x y : ℕ) → touched ss i ≡ true → final_byte ss i x ≡ final_byte ss i y
unfolding touched final_byte
final_touched [] i x y e = absurd (true≢false (sym e))
final_touched (s ∷ ss) i x y e = go (covers s i) refl (λ h. final_touched ss i x y h)
  where
    go : (t : Bool) → covers s i ≡ t → (touched ss i ≡ true → final_byte ss i x ≡ final_byte ss i y)
        → final_byte ss i (pick (covers s i) (get_or s.bytes (i - s.at) 0) x) ≡ final_byte ss i (pick (covers s i) (get_or s.bytes (i - s.at) 0) y)
    go true p again = rw p refl
    go false p again = rw p (again (rw p at e))

past_end : (l : List ℕ) (i : ℕ) → length l ≤ i → get_or l i 0 ≡ 0
past_end [] i h = refl
past_end (x ∷ l) zero h = absurd (not-suc-le-zero h)
past_end (x ∷ l) (suc i) h = past_end l i (le_of_suc-le-suc h)

-- the finished image is one that the commit may leave
pub finished_cut : (ss : List Store) (image : List ℕ) → CutOf ss image (finished ss image)
finished_cut ss image = record { same_length = finished_length ss image; kept = λ i e. go i e (ltb i (length image)) refl }
  where
    go : (i : ℕ) → touched ss i ≡ false → (t : Bool) → ltb i (length image) ≡ t → get_or (finished ss image) i 0 ≡ get_or image i 0
    go i e true p = finished_byte ss image i (ltb-true i (length image) p) ∙ final_untouched ss i (get_or image i 0) e
    go i e false p =
        let past : length image ≤ i = ltb-false i (length image) p in
        past_end (finished ss image) i (rw finished_length past) ∙ sym (past_end image i past)

-- a complete image has each touched byte's final content
pub complete_byte : (ss : List Store) (i : ℕ) (cut : List ℕ) → complete_from ss i cut ≡ true → (j : ℕ) → j < length cut → touched ss (i + j) ≡ true → get_or cut j 0 ≡ final_byte ss (i + j) 0
unfolding complete_from
complete_byte ss i [] e j h t = absurd (not-suc-le-zero h)
complete_byte ss i (x ∷ cut) e zero h t =
    let held = and_left (not (touched ss i) || eqb x (final_byte ss i 0)) (complete_from ss (i + 1) cut) e in
    let here : touched ss i ≡ true = rw add-zero at t in
    rw add-zero (eqb-true x (final_byte ss i 0) (rw here at held))
complete_byte ss i (x ∷ cut) e (suc j) h t =
    let same : i + suc j ≡ i + 1 + j = omega arith in
    rw same (complete_byte ss (i + 1) cut (and_right (not (touched ss i) || eqb x (final_byte ss i 0)) (complete_from ss (i + 1) cut) e) j (le_of_suc-le-suc h) (rw same at t))

-- and so is the finished one
pub complete_finished : (ss : List Store) (image cut : List ℕ) → CutOf ss image cut → complete ss cut ≡ true → cut ≡ finished ss image
complete_finished ss image cut c e = ext_get_or 0 _ _ (c.same_length ∙ sym (finished_length ss image)) (λ i h. go i h (touched ss i) refl)
  where
    go : (i : ℕ) → i < length cut → (t : Bool) → touched ss i ≡ t → get_or cut i 0 ≡ get_or (finished ss image) i 0
    go i h true p =
        let here : touched ss (0 + i) ≡ true = rw zero-add p in
        let final = rw zero-add at (complete_byte ss 0 cut e i h here) in
        final ∙ (final_touched ss i 0 (get_or image i 0) p ∙ sym (finished_byte ss image i (rw (← c.same_length) h)))
    go i h false p = c.kept i p ∙ sym ((finished_cut ss image).kept i p)
