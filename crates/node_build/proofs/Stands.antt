-- A piece that stands at a place of some bytes.
use mathlib.Core.Bool.{Bool}
use mathlib.Core.Path.{◌≡◌, refl, sym, ap, ◌∙◌}
use mathlib.Core.List.{List, [], ◌∷◌, ◌++◌, append_assoc, append-nil}
use Rattle.std.specs.Prelude.{Some}
use Prim.Native.Nat.{ℕ, ◌+◌, ◌*◌, ◌^◌, ◌≤◌, ◌<◌}
use native.Mathlib.Nat.{suc-mul, zero-mul}
use native.Mathlib.Omega.{arith}
use lib.ListN.{length, take, drop, length-append}
use lib.Seq.{drop_at, take-append_seam}
use Rattle.fields.specs.Fields.{le, num}
use Rattle.writers.specs.Bytes.{le_bytes}
use Rattle.writers.proofs.Laws.{length_bytes, le_of_le_bytes}
use Rattle.nodes.specs.Node.{Entry}
use Rattle.node_build.specs.declared.Sizes.{Sizes}
use Rattle.node_build.specs.declared.Sizes.TheVariants.{Fixed, Variable}
use Rattle.node_build.specs.Build.{padded, value_bytes, keys, values, slot_bytes, slot_width, slots_from, offset_of, length_of}

pub record Stands (x : List ℕ) (at : ℕ) (b : List ℕ) : Type 0 where
  pub before : List ℕ
  pub after : List ℕ
  pub is : b ≡ before ++ (x ++ after)
  pub place : length before ≡ at

pub stands_first : (x y : List ℕ) → Stands x 0 (x ++ y)
stands_first x y = record { before = []; after = y; is = refl; place = refl }

-- a piece of a piece
pub stands_in : (x c b : List ℕ) (i j : ℕ) → Stands x i c → Stands c j b → Stands x (j + i) b
stands_in x c b i j s t =
    record {
      before = t.before ++ s.before;
      after = s.after ++ t.after;
      is = t.is ∙ ap (λ (l : List ℕ). t.before ++ (l ++ t.after)) s.is ∙ regroup t.before s.before x s.after t.after;
      place = simp length-append (omega (arith, s.place, t.place));
    }
  where
    regroup : (p q y r o : List ℕ) → p ++ ((q ++ (y ++ r)) ++ o) ≡ (p ++ q) ++ (y ++ (r ++ o))
    regroup p q y r o = ap (λ (l : List ℕ). p ++ l) (append_assoc q (y ++ r) o ∙ ap (λ (l : List ℕ). q ++ l) (append_assoc y r o)) ∙ sym (append_assoc p q (y ++ (r ++ o)))

pub stands_part : (x b : List ℕ) (at : ℕ) → Stands x at b → take (length x) (drop at b) ≡ x
stands_part x b at s = rw (s.is, drop_at s.before (x ++ s.after) at s.place) (take-append_seam x s.after)

pub stands_inside : (x b : List ℕ) (at : ℕ) → Stands x at b → at + length x ≤ length b
stands_inside x b at s = rw s.is (simp length-append (omega (arith, s.place)))

-- with something before, or behind
pub stands_right : (p x c : List ℕ) (i at : ℕ) → Stands x i c → at ≡ length p + i → Stands x at (p ++ c)
stands_right p x c i at s e =
    record { before = p ++ s.before; after = s.after; is = ap (λ (l : List ℕ). p ++ l) s.is ∙ sym (append_assoc p s.before _); place = simp length-append (omega (arith, s.place)) }

pub stands_left : (q x c : List ℕ) (i : ℕ) → Stands x i c → Stands x i (c ++ q)
stands_left q x c i s =
    record { before = s.before; after = s.after ++ q; is = ap (λ (l : List ℕ). l ++ q) s.is ∙ append_assoc s.before (x ++ s.after) q ∙ ap (λ (l : List ℕ). s.before ++ l) (append_assoc x s.after q); place = s.place }

-- a number's bytes, whether or not they are all
pub stands_low : (w n at : ℕ) (b : List ℕ) → Stands (le_bytes w n) at b → num w b at ≡ le (le_bytes w n)
unfolding num
stands_low w n at b s = ap (λ (k : ℕ). le (take k (drop at b))) (sym (length_bytes w n)) ∙ ap le (stands_part (le_bytes w n) b at s)

pub stands_number : (w n at : ℕ) (b : List ℕ) → Stands (le_bytes w n) at b → n < 256 ^ w → num w b at ≡ n
stands_number w n at b s h = stands_low w n at b s ∙ le_of_le_bytes w n h

module _ (packed : Bool) where
  -- an entry's key, after those before it
  pub key_stands : (xs ys : List Entry) (e : Entry) → Stands e.key (length (keys packed xs)) (keys packed (xs ++ (e ∷ ys)))
  unfolding keys padded
  key_stands [] ys e = stands_in _ _ _ 0 0 (stands_first e.key _) (stands_first _ _)
  key_stands (x ∷ xs) ys e = stands_right (padded packed x.key) _ _ _ _ (key_stands xs ys e) (length-append (padded packed x.key) (keys packed xs))

  pub values_length : (xs ys : List Entry) → length (values packed (xs ++ ys)) ≡ length (values packed ys) + length (values packed xs)
  unfolding values
  values_length [] ys = omega arith
  values_length (x ∷ xs) ys = simp length-append (omega (arith, values_length xs ys))

  pub value_stands : (xs ys : List Entry) (e : Entry) (v : List ℕ) → e.value ≡ Some v → Stands v (length (values packed ys)) (values packed (xs ++ (e ∷ ys)))
  unfolding values value_bytes padded
  value_stands [] ys e v q = rw q (stands_right (values packed ys) v (value_bytes packed (Some v)) 0 (length (values packed ys)) (stands_first v _) (omega arith))
  value_stands (x ∷ xs) ys e v q = stands_left _ _ _ _ (value_stands xs ys e v q)

-- a slot's width is that of its numbers
pub slot_length : (z : Sizes) (koff klen voff vlen : ℕ) → length (slot_bytes z koff klen voff vlen) ≡ slot_width z
unfolding le_bytes slot_bytes slot_width
slot_length (Fixed k v) koff klen voff vlen = refl
slot_length Variable koff klen voff vlen = refl

module _ (z : Sizes) (packed : Bool) where
  -- the slot of an entry, after those of the entries before it: one law over the width
  pub slot_stands : (xs ys : List Entry) (e : Entry) (koff voff k v at : ℕ)
      → k ≡ koff + length (keys packed xs) → v ≡ voff + length (values packed xs) + length (value_bytes packed e.value) → at ≡ length xs * slot_width z
      → Stands (slot_bytes z k (length e.key) (offset_of e.value v) (length_of e.value)) at (slots_from z packed koff voff (xs ++ (e ∷ ys)))
  unfolding slots_from keys values
  slot_stands [] ys e koff voff k v at p q r = rw (k_is, v_is, at_is) (stands_first (slot_bytes z koff (length e.key) (offset_of e.value (voff + length (value_bytes packed e.value))) (length_of e.value)) _)
    where
      k_is : k ≡ koff
      k_is = omega arith

      at_is : at ≡ 0
      at_is = r ∙ zero-mul (slot_width z)

      v_is : v ≡ voff + length (value_bytes packed e.value)
      v_is = omega arith
  slot_stands (x ∷ xs) ys e koff voff k v at p q r =
      let next = voff + length (value_bytes packed x.value) in
      let first = slot_bytes z koff (length x.key) (offset_of x.value next) (length_of x.value) in
      stands_right first _ _ (length xs * slot_width z) at
      (slot_stands xs ys e (koff + length (padded packed x.key)) next k v (length xs * slot_width z)
      (omega (arith, length-append (padded packed x.key) (keys packed xs)))
      (omega (arith, length-append (values packed xs) (value_bytes packed x.value)))
      refl)
      (omega (arith, slot_length z koff (length x.key) (offset_of x.value next) (length_of x.value), suc-mul (length xs) (slot_width z)))

pub stands_last : (x y : List ℕ) (at : ℕ) → length x ≡ at → Stands y at (x ++ y)
stands_last x y at e = record { before = x; after = []; is = ap (λ (t : List ℕ). x ++ t) (sym (append-nil y)); place = e }

pub slots_length : (z : Sizes) (packed : Bool) (koff voff : ℕ) (es : List Entry) → length (slots_from z packed koff voff es) ≡ length es * slot_width z
unfolding slots_from
slots_length z packed koff voff [] = sym (zero-mul (slot_width z))
slots_length z packed koff voff (e ∷ es) =
    let next = voff + length (value_bytes packed e.value) in
    let first = slot_bytes z koff (length e.key) (offset_of e.value next) (length_of e.value) in
    omega (arith, length-append first (slots_from z packed (koff + length (padded packed e.key)) next es), slot_length z koff (length e.key) (offset_of e.value next) (length_of e.value), slots_length z packed (koff + length (padded packed e.key)) next es, suc-mul (length es) (slot_width z))
