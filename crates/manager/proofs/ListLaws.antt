-- Laws of lists read in place: a list exists whole where its last byte does, and its entries stand one after another.
use mathlib.Core.Path.{◌≡◌, refl, sym, ap, ◌∙◌}
use mathlib.Core.List.{List}
use Prim.Native.Nat.{ℕ, zero, suc, ◌+◌, ◌-◌, ◌*◌, ◌^◌, ◌≤◌, ◌<◌}
use native.Mathlib.Decide.{dec_le}
use native.Mathlib.Nat.{mul-suc, mul-zero}
use native.Mathlib.Omega.{arith}
use lib.ListN.{length, get_or, drop_of_length-le}
use lib.Bits.{bit_and, and_mask}
use lib.Pow.{pow_pos}
use lib.Seq.{take-nil}
use borrow.Author.Tests.{le-leb, lt-leb}
use Rattle.fields.specs.clauses.Numbers.{NumberAt}
use Rattle.fields.specs.Fields.{num, le}
use Rattle.fields.proofs.Laws.{field_there, field_absent}
use Rattle.blocks.specs.Reads.{run, given, refused}
use Rattle.blocks.specs.Blocks.{field, present}
use Rattle.blocks.specs.declared.Refusal.TheVariants.{OutsideBytes}
use Rattle.blocks.proofs.Laws.{then_given, then_refused, need_true, need_false}
use Rattle.manager.specs.Manager.{list_from}
use Rattle.manager.specs.Chunks.{chunk_at, chunks_from}
use Rattle.manager.specs.clauses.Lists.{values, records}
use Rattle.manager.specs.declared.Chunk.{Chunk}

-- past the end all bytes count 0
num_past : (w : ℕ) (b : List ℕ) (off : ℕ) → length b ≤ off → num w b off ≡ 0
unfolding num le
num_past w b off h = rw (drop_of_length-le b h, take-nil) refl

pub number_past : (w : ℕ) (b : List ℕ) (off : ℕ) → length b ≤ off → NumberAt w b off 0
number_past w b off h = record { is = sym (num_past w b off h); fits = pow_pos (8 * w) }

-- where a list is longer than its first entry, it has a second
positive : (w n off len : ℕ) → off + w ≤ len → len < off + w * suc n → 0 < n
positive w zero off len h k = absurd (omega (arith, mul-suc w 0, mul-zero w))
positive w (suc n) off len h k = omega arith

-- a list of fields, by whether its last byte exists
module _ (f : ℕ → List ℕ) (w : ℕ) (sm : List ℕ) where
  field_given : (off : ℕ) → off + w ≤ length sm → run f (field w sm off) ≡ given (num w sm off)
  unfolding run field present
  field_given off h = rw (field_there w sm off h) refl

  field_refused : (off : ℕ) → length sm < off + w → run f (field w sm off) ≡ refused OutsideBytes
  unfolding run field present
  field_refused off h = rw (field_absent w sm off h) refl

  pub list_fits : (n off : ℕ) → off + w * n ≤ length sm → run f (list_from w sm n off) ≡ given (values w sm n off)
  unfolding run list_from values
  list_fits zero off h = refl
  list_fits (suc n) off h =
      then_given f _ _ _ (field_given off (omega (arith, mul-suc w n)))
      ∙ then_given f _ _ _ (list_fits n (off + w) (omega (arith, mul-suc w n)))

  pub list_outside : (n off : ℕ) → 0 < n → length sm < off + w * n → run f (list_from w sm n off) ≡ refused OutsideBytes
  unfolding list_from
  list_outside zero off some h = elim some [ ]
  list_outside (suc n) off some h = go (dec_le (off + w) (length sm)) (list_outside n (off + w))
    where
      go : Dec (off + w ≤ length sm) → (0 < n → length sm < off + w + w * n → run f (list_from w sm n (off + w)) ≡ refused OutsideBytes)
          → run f (list_from w sm (suc n) off) ≡ refused OutsideBytes
      go (no l) again = then_refused f _ _ _ (field_refused off (omega arith))
      go (yes l) again =
          then_given f _ _ _ (field_given off l)
          ∙ then_refused f _ _ _ (again (positive w n off _ l h) (omega (arith, mul-suc w n)))

-- what a list holds
pub values_length : (w : ℕ) (sm : List ℕ) (n off : ℕ) → length (values w sm n off) ≡ n
unfolding values
values_length w sm zero off = refl
values_length w sm (suc n) off = ap suc (values_length w sm n (off + w))

pub values_at : (w : ℕ) (sm : List ℕ) (n off i : ℕ) → i < n → get_or (values w sm n off) i 0 ≡ num w sm (off + w * i)
unfolding values
values_at w sm zero off i h = elim h [ ]
values_at w sm (suc n) off zero h = ap (num w sm) (omega (arith, mul-zero w))
values_at w sm (suc n) off (suc i) h = values_at w sm n (off + w) i (omega arith) ∙ ap (num w sm) (omega (arith, mul-suc w i))

-- the records of chunks
module _ (f : ℕ → List ℕ) (b : List ℕ) where
  pub chunks_fit : (n e : ℕ) → e + 32 * n ≤ length b → run f (chunks_from b n e) ≡ given (records b n e)
  unfolding run chunks_from records
  chunks_fit zero e h = refl
  chunks_fit (suc n) e h = need_true f _ _ _ (le-leb (e + 32) (length b) (omega arith)) ∙ then_given f _ _ _ (chunks_fit n (e + 32) (omega arith))

  pub chunks_outside : (n e : ℕ) → 0 < n → length b < e + 32 * n → run f (chunks_from b n e) ≡ refused OutsideBytes
  unfolding chunks_from
  chunks_outside zero e some h = elim some [ ]
  chunks_outside (suc n) e some h = go (dec_le (e + 32) (length b)) (chunks_outside n (e + 32))
    where
      go : Dec (e + 32 ≤ length b) → (0 < n → length b < e + 32 + 32 * n → run f (chunks_from b n (e + 32)) ≡ refused OutsideBytes)
          → run f (chunks_from b (suc n) e) ≡ refused OutsideBytes
      go (no l) again = need_false f _ _ _ (lt-leb (e + 32) (length b) (omega arith))
      go (yes l) again = need_true f _ _ _ (le-leb _ _ l) ∙ then_refused f _ _ _ (again (omega arith) (omega arith))

pub records_length : (b : List ℕ) (n e : ℕ) → length (records b n e) ≡ n
unfolding records
records_length b zero e = refl
records_length b (suc n) e = ap suc (records_length b n (e + 32))

pub records_at : (b : List ℕ) (n e i : ℕ) (none : Chunk) → i < n → get_or (records b n e) i none ≡ chunk_at b (e + 32 * i)
unfolding records
records_at b zero e i none h = elim h [ ]
records_at b (suc n) e zero none h = ap (chunk_at b) (omega arith)
records_at b (suc n) e (suc i) none h = records_at b n (e + 32) i none (omega arith) ∙ ap (chunk_at b) (omega arith)

-- a record from its fields, and one past the end
module _ (b : List ℕ) (e : ℕ) where
  pub chunk_read : (s k n m : ℕ) → s ≡ num 8 b (e + 8) → k ≡ num 4 b (e + 16) → n ≡ num 4 b (e + 20) → m ≡ num 8 b (e + 24)
      → record { start = s; blocks = bit_and k (2 ^ 20 - 1); free = bit_and n (2 ^ 20 - 1); bitmap = record { 0 = m } } ≡ chunk_at b e
  unfolding chunk_at
  chunk_read s k n m p q r t = rw (and_mask k 20, and_mask n 20, p, q, r, t) refl

  pub chunk_past : length b ≤ e → record { start = 0; blocks = 0; free = 0; bitmap = record { 0 = 0 } } ≡ chunk_at b e
  chunk_past h = chunk_read 0 0 0 0 (past 8 8) (past 4 16) (past 4 20) (past 8 24)
    where
      past : (w k : ℕ) → 0 ≡ num w b (e + k)
      past w k = sym (num_past w b (e + k) (omega arith))
