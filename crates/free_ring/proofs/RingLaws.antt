-- Laws of the walk along the free ring: each way it goes, and that it ends by itself.
use Rattle.std.proofs.Common.{◌≡◌, refl, sym, ap, ◌∙◌, subst, Bool, true, false, not, ◌&&◌, ◌||◌, ◌⊎◌, inl, inr, List, [], ◌∷◌, ◌++◌, append_assoc, append-nil, ℕ, zero, suc, ◌+◌, ◌≤◌, ◌<◌, arith, eqb, length, get_or, lt-ltb, le-ltb, eq-eqb, ne_eqb, eqb-true}
use native.Mathlib.Decide.{dec_le}
use borrow.Author.Tests.{eqb-false}
use Rattle.fields.specs.Choice.{pick, choose}
use Rattle.free_ring.specs.Ring.{is_in, distinct, RingWalk, ended, ring_from, no_head, ring_of, met_in, met}
use Rattle.free_ring.specs.clauses.Walks.{steps_from}
use Rattle.free_ring.specs.declared.RingEnd.{RingEnd}
use Rattle.free_ring.specs.declared.RingEnd.TheVariants.{Tail, Again, Outside}

module _ (next : List ℕ) (tail left i : ℕ) (seen : List ℕ) where
  pub ring_outside : length next ≤ i → ring_from next tail (suc left) i seen ≡ ended seen Outside
  unfolding ring_from
  ring_outside h = simp (le-ltb _ _ h)

  pub ring_again : i < length next → is_in i seen ≡ true → ring_from next tail (suc left) i seen ≡ ended seen (Again i)
  unfolding ring_from
  ring_again h s = simp (lt-ltb _ _ h, s)

  pub ring_tail : i < length next → is_in i seen ≡ false → i ≡ tail → ring_from next tail (suc left) i seen ≡ ended (seen ++ (i ∷ [])) Tail
  unfolding ring_from
  ring_tail h s e = simp (lt-ltb _ _ h, s, eq-eqb _ _ e)

  pub ring_on : i < length next → is_in i seen ≡ false → (i ≡ tail → ⊥) → ring_from next tail (suc left) i seen ≡ ring_from next tail left (get_or next i 0) (seen ++ (i ∷ []))
  unfolding ring_from
  ring_on h s n = simp (lt-ltb _ _ h, s, ne_eqb _ _ n)

  -- the four ways, whatever is to be shown of the walk
  ring_cases : (P : RingWalk → Type 0) → (length next ≤ i → P (ended seen Outside)) → (i < length next → is_in i seen ≡ true → P (ended seen (Again i)))
      → (i < length next → is_in i seen ≡ false → i ≡ tail → P (ended (seen ++ (i ∷ [])) Tail))
      → (i < length next → is_in i seen ≡ false → (i ≡ tail → ⊥) → P (ring_from next tail left (get_or next i 0) (seen ++ (i ∷ []))))
      → P (ring_from next tail (suc left) i seen)
  ring_cases P outside again last on = inside (dec_le (length next) i)
    where
      Whole : Type 0
      Whole = P (ring_from next tail (suc left) i seen)

      at_tail : i < length next → is_in i seen ≡ false → (t : Bool) → eqb i tail ≡ t → Whole
      at_tail l s true e = subst P (sym (ring_tail l s (eqb-true _ _ e))) (last l s (eqb-true _ _ e))
      at_tail l s false e = subst P (sym (ring_on l s (eqb-false _ _ e))) (on l s (eqb-false _ _ e))

      fresh : i < length next → (s : Bool) → is_in i seen ≡ s → Whole
      fresh l true s = subst P (sym (ring_again l s)) (again l s)
      fresh l false s = at_tail l s (eqb i tail) refl

      inside : Dec (length next ≤ i) → Whole
      inside (yes l) = subst P (sym (ring_outside l)) (outside l)
      inside (no l) = fresh (omega arith) (is_in i seen) refl

-- one index more at the end
pub in_more : (j i : ℕ) (is : List ℕ) → is_in j (is ++ (i ∷ [])) ≡ (eqb j i || is_in j is)
unfolding is_in
in_more j i [] = refl
in_more j i (x ∷ is) = rw (in_more j i is) (swap (eqb j x) (eqb j i) (is_in j is))
  where
    swap : (a b c : Bool) → (a || (b || c)) ≡ (b || (a || c))
    swap true true c = refl
    swap true false c = refl
    swap false true c = refl
    swap false false c = refl

-- how many indices below n weren't seen: what the walk has left
unfoldable pub unseen : ℕ → List ℕ → ℕ
unseen zero seen = 0
unseen (suc n) seen = pick (is_in n seen) 0 1 + unseen n seen

pub unseen_none : (n : ℕ) → unseen n [] ≡ n
unfolding unseen is_in
unseen_none zero = refl
unseen_none (suc n) = omega (arith, unseen_none n)

module _ (i : ℕ) (seen : List ℕ) where
  unseen_below : (n : ℕ) → n ≤ i → unseen n (seen ++ (i ∷ [])) ≡ unseen n seen
  unfolding unseen
  unseen_below zero h = refl
  unseen_below (suc n) h = rw (in_more n i seen, ne_eqb n i (λ e. omega arith), unseen_below n (omega arith)) refl

  -- an index that wasn't seen is one less
  pub unseen_less : (n : ℕ) → i < n → is_in i seen ≡ false → suc (unseen n (seen ++ (i ∷ []))) ≡ unseen n seen
  unfolding unseen
  unseen_less zero h s = elim h [ ]
  unseen_less (suc n) h s = go (dec_le n i) (unseen_less n)
    where
      go : Dec (n ≤ i) → (i < n → is_in i seen ≡ false → suc (unseen n (seen ++ (i ∷ []))) ≡ unseen n seen)
          → suc (unseen (suc n) (seen ++ (i ∷ []))) ≡ unseen (suc n) seen
      go (yes l) again = let e : n ≡ i = omega arith in rw (e, in_more i i seen, eq-eqb i i refl, s, unseen_below i (omega arith)) (omega arith)
      go (no l) again = rw (in_more n i seen, ne_eqb n i (λ e. omega arith), ← again (omega arith) s) (omega arith)

-- the limit doesn't matter: with more left than there are unseen indices, the walk is the one with any larger limit
module _ (next : List ℕ) (tail : ℕ) where
  ring_steady : (left more i : ℕ) (seen : List ℕ) → unseen (length next) seen < left → left ≤ more → ring_from next tail more i seen ≡ ring_from next tail left i seen
  ring_steady zero more i seen h m = absurd (omega arith)
  ring_steady (suc left) zero i seen h m = absurd (omega arith)
  ring_steady (suc left) (suc more) i seen h m =
      ring_cases next tail left i seen (λ w. ring_from next tail (suc more) i seen ≡ w)
      (ring_outside next tail more i seen)
      (ring_again next tail more i seen)
      (ring_tail next tail more i seen)
      (λ l s n. ring_on next tail more i seen l s n ∙ ring_steady left more (get_or next i 0) (seen ++ (i ∷ [])) (omega (arith, unseen_less i seen (length next) l s)) (omega arith))

  -- the definition's limit is never used up
  pub ring_ends : (head more : ℕ) → suc (length next) ≤ more → ring_from next tail more head [] ≡ ring_from next tail (suc (length next)) head []
  ring_ends head more h = ring_steady (suc (length next)) more head [] (omega (arith, unseen_none (length next))) h

-- what a walk tells: its indices differ and are the ring's, and the one that it met again is among them
pub record Told (next : List ℕ) (w : RingWalk) : Type 0 where
  pub differ : distinct w.visited ≡ true
  pub within : (j : ℕ) → is_in j w.visited ≡ true → j < length next
  pub again : (j : ℕ) → w.ending ≡ Again j → is_in j w.visited ≡ true

either : (a b : Bool) → (a || b) ≡ true → (a ≡ true) ⊎ (b ≡ true)
either true b e = inl refl
either false b e = inr e

same_eqb : (i j : ℕ) → eqb i j ≡ eqb j i
same_eqb i j = go (eqb j i) refl
  where
    go : (b : Bool) → eqb j i ≡ b → eqb i j ≡ b
    go true e = eq-eqb i j (sym (eqb-true j i e))
    go false e = ne_eqb i j (λ q. eqb-false j i e (sym q))

-- one index more at the end repeats none if it is none of them
pub distinct_more : (i : ℕ) (is : List ℕ) → distinct (is ++ (i ∷ [])) ≡ (not (is_in i is) && distinct is)
unfolding distinct is_in
distinct_more i [] = refl
distinct_more i (x ∷ is) = rw (in_more x i is, distinct_more i is, same_eqb x i) (swap (eqb i x) (is_in x is) (is_in i is) (distinct is))
  where
    swap : (e a b d : Bool) → (not (e || a) && (not b && d)) ≡ (not (e || b) && (not a && d))
    swap true a b d = refl
    swap false true true d = refl
    swap false true false d = refl
    swap false false true d = refl
    swap false false false d = refl

never : (o : RingEnd) (j : ℕ) → o ≡ Again j → (o ≡ Tail) ⊎ (o ≡ Outside) → ⊥
never o j p (inl q) = let z : ◌≡◌ {A = ℕ} 0 1 = cc in omega arith
never o j p (inr q) = let z : ◌≡◌ {A = ℕ} 0 1 = cc in omega arith

same_again : (i j : ℕ) → Again i ≡ Again j → i ≡ j
same_again i j e = cc

module _ (next : List ℕ) (tail : ℕ) where
  within_more : (i : ℕ) (is : List ℕ) → i < length next → ((j : ℕ) → is_in j is ≡ true → j < length next) → (j : ℕ) → is_in j (is ++ (i ∷ [])) ≡ true → j < length next
  within_more i is h within j e = go (either (eqb j i) (is_in j is) (sym (in_more j i is) ∙ e))
    where
      go : (eqb j i ≡ true) ⊎ (is_in j is ≡ true) → j < length next
      go (inl q) = let same : j ≡ i = eqb-true _ _ q in omega arith
      go (inr q) = within j q

  told_from : (left i : ℕ) (seen : List ℕ) → unseen (length next) seen < left → distinct seen ≡ true → ((j : ℕ) → is_in j seen ≡ true → j < length next) → Told next (ring_from next tail left i seen)
  told_from zero i seen h d within = absurd (omega arith)
  told_from (suc left) i seen h d within =
      ring_cases next tail left i seen (Told next)
      (λ l. record { differ = d; within = within; again = λ j q. absurd (never Outside j q (inr refl)) })
      (λ l s. record { differ = d; within = within; again = λ j q. rw (← same_again i j q) s })
      (λ l s e. record { differ = more s; within = within_more i seen l within; again = λ j q. absurd (never Tail j q (inl refl)) })
      (λ l s n. told_from left (get_or next i 0) (seen ++ (i ∷ [])) (omega (arith, unseen_less i seen (length next) l s)) (more s) (within_more i seen l within))
    where
      more : is_in i seen ≡ false → distinct (seen ++ (i ∷ [])) ≡ true
      more s = distinct_more i seen ∙ rw (s, d) refl

  none_in : (j : ℕ) → is_in j [] ≡ true → j < length next
  unfolding is_in
  none_in j e = let z : ◌≡◌ {A = ℕ} 0 1 = cc in omega arith

  pub ring_told : (head : ℕ) → Told next (ring_from next tail (suc (length next)) head [])
  unfolding distinct
  ring_told head = told_from (suc (length next)) head [] (omega (arith, unseen_none (length next))) refl none_in

  -- the same of an empty list
  pub ring_of_told : (head : ℕ) → Told next (ring_of next head tail)
  unfolding ring_of distinct
  ring_of_told head = go (eqb head no_head)
    where
      go : (b : Bool) → Told next (choose b (λ _. ended [] Tail) (λ _. ring_from next tail (suc (length next)) head []))
      go true = record { differ = refl; within = none_in; again = λ j q. absurd (never Tail j q (inl refl)) }
      go false = ring_told head

-- what is met is the table's list: so many steps from an index on, after those seen
pub record Steps (next : List ℕ) (i : ℕ) (seen is : List ℕ) : Type 0 where
  pub count : ℕ
  pub are : is ≡ seen ++ steps_from next count i

module _ (next : List ℕ) (tail : ℕ) where
  steps_met : (left i : ℕ) (seen : List ℕ) → Steps next i seen (met (ring_from next tail left i seen))
  unfolding ring_from met_in steps_from
  steps_met zero i seen = record { count = 1; are = refl }
  steps_met (suc left) i seen =
      ring_cases next tail left i seen (λ w. Steps next i seen (met w))
      (λ l. record { count = 0; are = sym (append-nil seen) })
      (λ l s. record { count = 1; are = refl })
      (λ l s e. record { count = 1; are = refl })
      (λ l s n. more (steps_met left (get_or next i 0) (seen ++ (i ∷ []))))
    where
      more : {is : List ℕ} → Steps next (get_or next i 0) (seen ++ (i ∷ [])) is → Steps next i seen is
      more later = record { count = suc later.count; are = later.are ∙ append_assoc seen (i ∷ []) (steps_from next later.count (get_or next i 0)) }

  -- from the head
  pub ring_steps : (head : ℕ) → Steps next head [] (met (ring_from next tail (suc (length next)) head []))
  ring_steps head = steps_met (suc (length next)) head []

-- the index k steps on
unfoldable pub step_of : List ℕ → ℕ → ℕ → ℕ
step_of next zero i = i
step_of next (suc k) i = step_of next k (get_or next i 0)

module _ (next : List ℕ) where
  pub step_next : (k i : ℕ) → step_of next (suc k) i ≡ get_or next (step_of next k i) 0
  unfolding step_of
  step_next zero i = refl
  step_next (suc k) i = step_next k (get_or next i 0)

  pub steps_more : (k i : ℕ) → steps_from next (suc k) i ≡ steps_from next k i ++ (step_of next k i ∷ [])
  unfolding steps_from step_of
  steps_more zero i = refl
  steps_more (suc k) i = ap (i ∷◌) (steps_more k (get_or next i 0))

  pub steps_length : (k i : ℕ) → length (steps_from next k i) ≡ k
  unfolding steps_from
  steps_length zero i = refl
  steps_length (suc k) i = ap suc (steps_length k (get_or next i 0))
