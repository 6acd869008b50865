-- Laws of rows: the greatest byte, and bytes that are all 0.
use mathlib.Core.Bool.{true, false, ◌&&◌}
use mathlib.Core.List.{List, [], ◌∷◌, ◌++◌, append_assoc}
use mathlib.Core.Path.{◌≡◌, refl, ap, ◌∙◌}
use Prim.Native.Nat.{ℕ, zero, suc, ◌+◌, ◌-◌, ◌≤◌, ◌<◌, max}
use native.Mathlib.Decide.{ℕ_discrete}
use native.Mathlib.Numerals.{add-one}
use native.Mathlib.Omega.{arith}
use lib.Dec.{eqb}
use lib.ListN.{length, get_or, take, drop, replicate, length-take, length-drop, length-replicate, replicate-append-replicate, drop_of_length-le}
use lib.Seq.{drop-cons, take_at, drop_at, drop-drop}
use borrow.Author.Tests.{ne_eqb}
use Rattle.block_map.specs.BlockMap.{cleared}
use Rattle.block_map.specs.clauses.Rows.{greatest_in, itself, all_zero}

module _ (f : ℕ → ℕ) where
  -- one byte more
  pub greatest_more : (row : List ℕ) (i g next : ℕ) → i < length row → next ≡ max g (f (get_or row i 0)) → greatest_in f (drop (i + 1) row) next ≡ greatest_in f (drop i row) g
  unfolding greatest_in
  greatest_more row i g next h e = rw (drop-cons row i 0 h, add-one, e) refl

  pub greatest_done : (row : List ℕ) (i g : ℕ) → length row ≤ i → greatest_in f (drop i row) g ≡ g
  unfolding greatest_in
  greatest_done row i g h = rw (drop_of_length-le row h) refl

  greatest_grows : (row : List ℕ) (g : ℕ) → g ≤ greatest_in f row g
  unfolding greatest_in
  greatest_grows [] g = omega arith
  greatest_grows (x ∷ row) g = omega (arith, greatest_grows row (max g (f x)))

  -- where it is 0, so is the first, and the greatest of the others
  pub greatest_zero : (x : ℕ) (row : List ℕ) → greatest_in f (x ∷ row) 0 ≡ 0 → (f x ≡ 0) × (greatest_in f row 0 ≡ 0)
  unfolding greatest_in
  greatest_zero x row e = (omega (arith, none), rw none at e)
    where
      none : max 0 (f x) ≡ 0
      none = omega (arith, greatest_grows row (max 0 (f x)))

  pub greatest_zeros : (k : ℕ) → f 0 ≡ 0 → greatest_in f (replicate k 0) 0 ≡ 0
  unfolding greatest_in
  greatest_zeros zero z = refl
  greatest_zeros (suc k) z = ap (λ (x : ℕ). greatest_in f (replicate k 0) (max 0 x)) z ∙ greatest_zeros k z

-- all bytes are 0 where the greatest is
pub zero_test : (row : List ℕ) → eqb (greatest_in itself row 0) 0 ≡ all_zero row
unfolding greatest_in all_zero
zero_test [] = refl
zero_test (x ∷ row) = go (ℕ_discrete x 0) (zero_test row)
  where
    go : Dec (x ≡ 0) → eqb (greatest_in itself row 0) 0 ≡ all_zero row → eqb (greatest_in itself row (max 0 x)) 0 ≡ (eqb x 0 && all_zero row)
    go (yes z) rest = rw z rest
    go (no h) rest = rw (ne_eqb x 0 h) (ne_eqb (greatest_in itself row (max 0 x)) 0 (λ e. h (omega (arith, greatest_grows itself row (max 0 x)))))

pub zero_row : (row : List ℕ) → all_zero row ≡ true → row ≡ replicate (length row) 0
unfolding all_zero
zero_row [] e = refl
zero_row (x ∷ row) e = go (ℕ_discrete x 0) (zero_row row)
  where
    go : Dec (x ≡ 0) → (all_zero row ≡ true → row ≡ replicate (length row) 0) → x ∷ row ≡ 0 ∷ replicate (length row) 0
    go (yes z) rest = rw (z, ← rest (rw z at e)) refl
    go (no h) rest = let never : false ≡ true = rw (ne_eqb x 0 h) at e in cc

cleared_more : (at k : ℕ) (before : List ℕ) → take at (cleared at before) ++ (replicate k 0 ++ drop k (drop at (cleared at before))) ≡ cleared (at + k) before
unfolding cleared
cleared_more at k before = rw (take_at _ (drop at before) at long, drop_at _ (drop at before) at long, drop-drop k at before, ← append_assoc, replicate-append-replicate at k) refl
  where
    long : length {A = ℕ} (replicate at 0) ≡ at
    long = length-replicate at _

-- the bytes from at up to end zeroed, once those before are
pub row_cleared : (at end : ℕ) (before map row : List ℕ) → at ≤ end → end ≤ length map → map ≡ cleared at before → row ≡ replicate (length (take (end - at) (drop at map))) 0 → take at map ++ (row ++ drop (end - at) (drop at map)) ≡ cleared end before
row_cleared at end before map row h fits e zeros = rw (zeros, part, e, cleared_more at (end - at) before, whole) refl
  where
    part : length (take (end - at) (drop at map)) ≡ end - at
    part = simp (length-take, length-drop) (omega arith)

    whole : at + (end - at) ≡ end
    whole = omega arith
