-- Laws of sets of indices: a bit that is set, and the list that a set is of.
use Rattle.std.proofs.Common.{◌≡◌, refl, ap, ◌∙◌, Bool, true, false, not, ◌||◌, List, [], ◌∷◌, ◌++◌, ℕ, zero, suc, ◌+◌, ◌*◌, ◌/◌, ◌%◌, ◌^◌, ◌<◌, max, mul-suc, mul-zero, arith, bit_or, shl_exact, T, eqb, length, get_or, set, replicate, length-set, get_or-set_same, get_or-set_other, eq-eqb, ne_eqb, eqb-true}
use lib.Bits.{or_step, or_shr}
use lib.ListN.{length-replicate, get_or-replicate}
use borrow.Author.Tests.{eqb-false}
use Rattle.fields.specs.Fields.{num, bit, bit_at}
use Rattle.fields.proofs.Laws.{bit_zero}
use Rattle.fields.proofs.Tables.{below, at_below}
use Rattle.manager.specs.clauses.Lists.{values}
use Rattle.free_ring.specs.Ring.{is_in}
use Rattle.free_ring.specs.clauses.Sets.{set_bytes, Put, SetOf}
use Rattle.free_ring.proofs.RingLaws.{in_more}

abbrev same : Bool → Bool → Bool
same true b = b
same false b = not b

same_is : (a b : Bool) → T (same a b) → a ≡ b
same_is true true t = refl
same_is false true t = elim t [ ]
same_is true false t = elim t [ ]
same_is false false t = refl

-- bit j of the power k is 1 where j is k
power_bit : (j k : ℕ) → j < 8 → k < 8 → bit j (2 ^ k) ≡ eqb j k
power_bit j k h l = same_is _ _ (at_below (λ k. same (bit j (2 ^ k)) (eqb j k)) 8 k (at_below (λ j. below (λ k. same (bit j (2 ^ k)) (eqb j k)) 8) 8 j tt h) l)

or_bit : (j x y : ℕ) → bit j (bit_or x y) ≡ (bit j y || bit j x)
or_bit j x y = rw (or_shr x y j) (odd (x / 2 ^ j) (y / 2 ^ j))
  where
    either : (p q : ℕ) → p < 2 → q < 2 → eqb (max p q) 1 ≡ (eqb q 1 || eqb p 1)
    either zero zero h l = refl
    either zero (suc zero) h l = refl
    either (suc zero) zero h l = refl
    either (suc zero) (suc zero) h l = refl
    either zero (suc (suc q)) h l = absurd (omega arith)
    either (suc zero) (suc (suc q)) h l = absurd (omega arith)
    either (suc (suc p)) q h l = absurd (omega arith)

    odd : (p q : ℕ) → eqb (bit_or p q % 2) 1 ≡ (eqb (q % 2) 1 || eqb (p % 2) 1)
    odd p q = let e : bit_or p q % 2 ≡ max (p % 2) (q % 2) = omega (arith, or_step p q) in rw e (either (p % 2) (q % 2) (omega arith) (omega arith))

-- two bits of one byte
near_bit : (j i : ℕ) → j / 8 ≡ i / 8 → eqb (j % 8) (i % 8) ≡ eqb j i
near_bit j i e = go (eqb j i) refl
  where
    go : (b : Bool) → eqb j i ≡ b → eqb (j % 8) (i % 8) ≡ b
    go true t = eq-eqb (j % 8) (i % 8) (let k : j ≡ i = eqb-true j i t in omega arith)
    go false t = ne_eqb (j % 8) (i % 8) (λ k. eqb-false j i t (omega arith))

-- bit i put into its byte
module _ (bits : List ℕ) (i x : ℕ) (inside : i < length bits * 8) (power : x ≡ 2 ^ (i % 8)) where
  abbrev with_bit : List ℕ
  with_bit = set bits (i / 8) (bit_or (get_or bits (i / 8) 0) x)

  other_byte : (j : ℕ) → (j / 8 ≡ i / 8 → ⊥) → bit_at with_bit j ≡ (eqb j i || bit_at bits j)
  unfolding bit_at
  other_byte j n = rw (get_or-set_other bits (i / 8) (j / 8) (bit_or (get_or bits (i / 8) 0) x) 0 n, ne_eqb j i (λ e. n (ap (λ k. k / 8) e))) refl

  this_byte : (j : ℕ) → j / 8 ≡ i / 8 → bit_at with_bit j ≡ (eqb j i || bit_at bits j)
  unfolding bit_at
  this_byte j e =
      let l : i / 8 < length bits = omega arith in
      rw (e, get_or-set_same bits (i / 8) (bit_or (get_or bits (i / 8) 0) x) 0 l, or_bit (j % 8) (get_or bits (i / 8) 0) x, power, power_bit (j % 8) (i % 8) (omega arith) (omega arith), near_bit j i e) refl

  pub bit_put : Put bits i (set bits (i / 8) (bit_or (get_or bits (i / 8) 0) x))
  bit_put = record { bits = λ j. go j (eqb (j / 8) (i / 8)) refl; as_long = length-set bits (i / 8) (bit_or (get_or bits (i / 8) 0) x) }
    where
      go : (j : ℕ) (b : Bool) → eqb (j / 8) (i / 8) ≡ b → bit_at with_bit j ≡ (eqb j i || bit_at bits j)
      go j true t = this_byte j (eqb-true _ _ t)
      go j false t = other_byte j (eqb-false _ _ t)

-- the set of no index, and of one more
clear_bit : (n j : ℕ) → j < n * 8 → bit_at (replicate n 0) j ≡ false
clear_bit n j h = bit_zero (replicate n 0) j (get_or-replicate {A = ℕ} n (j / 8) 0 0 (omega arith))

pub clear_set : (n : ℕ) → n ≡ set_bytes → SetOf (replicate n 0) []
unfolding is_in
clear_set n e = record { same = λ j h. clear_bit n j (omega arith); wide = length-replicate n 0 ∙ e }

pub set_more : (bits is after : List ℕ) (i : ℕ) → SetOf bits is → Put bits i after → SetOf after (is ++ (i ∷ []))
set_more bits is after i s p = record { same = λ j h. p.bits j ∙ rw (s.same j h, in_more j i is) refl; wide = p.as_long ∙ s.wide }

-- one value more at the end of a list
pub values_more : (w : ℕ) (sm : List ℕ) (n off : ℕ) → values w sm (suc n) off ≡ values w sm n off ++ (num w sm (off + w * n) ∷ [])
unfolding values
values_more w sm zero off = ap (λ o. num w sm o ∷ []) (omega (arith, mul-zero w))
values_more w sm (suc n) off = ap (num w sm off ∷◌) (values_more w sm n (off + w) ∙ rw e refl)
  where
    e : off + w + w * n ≡ off + w * suc n
    e = omega (arith, mul-suc w n)

pub one_shifted : (k : ℕ) → k < 8 → 1 * 2 ^ k % 256 ≡ 2 ^ k
one_shifted k h = shl_exact {a = 1} 1 k 8 (omega arith) (omega arith) ∙ omega arith
