-- Numbers in their shortest form: their digits counted, and written from the last to the first; and that no form is shorter.
use Rattle.std.proofs.Common.{◌≡◌, ℕ, zero, suc, ◌+◌, ◌-◌, ◌*◌, ◌/◌, ◌%◌, ◌^◌, ◌<◌, ◌≤◌, max, Bool, true, false, ltb, List, [], ◌∷◌, ◌++◌, length, take, drop, set, sym, refl, ap, ◌∙◌, append_assoc, lt_of_lt_of_le, lt_irrefl, mul_comm, one-mul, pow-suc, div-one, add-one, arith, length-append, length-take-le, drop_at, le-ltb, lt-ltb}
use Rattle.std.proofs.lemmas.List.{drop-set}
use lib.Seq.{paste, take-length, take-set-le, set_split}
use native.Mathlib.Nat.{pow-le-pow_right, pow-le-pow_left, pow-zero, div-div-eq-div-mul}
use native.Mathlib.Decide.{dec_le, dec_lt}
use Rattle.fields.specs.Choice.{pick}
use Rattle.listing_text.specs.Text.{glyph, digits, places_from, most_digits, places, numeral, Fewest, Shortest}
use Rattle.listing_text.proofs.Laws.{glue}

digits_length : (base k n : ℕ) → length (digits base k n) ≡ k
unfolding digits
digits_length base zero n = refl
digits_length base (suc k) n = ap suc (digits_length base k n)

pub numeral_length : (base n : ℕ) → length (numeral base n) ≡ places base n
unfolding numeral
numeral_length base n = digits_length base (places base n) n

numeral_is : (base n : ℕ) → numeral base n ≡ digits base (places base n) n
unfolding numeral
numeral_is base n = refl

pub numeral_by : (base n k : ℕ) (text : List ℕ) → k ≡ places base n → text ≡ digits base k n → text ≡ numeral base n
numeral_by base n k text e p = p ∙ ap (λ (j : ℕ). digits base j n) e ∙ sym (numeral_is base n)

-- the last digit, and before it those of what the number has above its last place
digits_last : (base k n : ℕ) → digits base (suc k) n ≡ digits base k (n / base) ++ (glyph (n % base) ∷ [])
unfolding digits
digits_last base zero n = ap (λ (m : ℕ). glyph (m % base) ∷ []) (rw (pow-zero base) (div-one n))
digits_last base (suc k) n = λ i. glyph (above i % base) ∷ digits_last base k n i
  where
    above : n / base ^ suc k ≡ n / base / base ^ k
    above = ap (λ (d : ℕ). n / d) (pow-suc base k ∙ mul_comm (base ^ k) base) ∙ sym (div-div-eq-div-mul n base (base ^ k))

-- the last of some bytes at its place, and then the others
last_put : (l xs : List ℕ) (x at k : ℕ) → length xs ≡ k → at + k < length l
    → paste (set l (at + k) x) at xs k ≡ paste l at (xs ++ (x ∷ [])) (k + 1)
last_put l xs x at k e h =
    glue (take-set-le at l (at + k) x (omega arith)) (ap (λ (n : ℕ). take n xs) (sym e) ∙ take-length xs) (ap (drop (at + k)) (set_split l (at + k) x h) ∙ drop_at (take (at + k) l) _ (at + k) (length-take-le (at + k) l (omega arith)))
    ∙ sym (glue {a = take at l} refl (ap (λ (n : ℕ). take n (xs ++ (x ∷ []))) long ∙ take-length (xs ++ (x ∷ []))) (ap (λ (n : ℕ). drop n l) after) ∙ shift (take at l) xs x (drop (suc (at + k)) l))
  where
    long : k + 1 ≡ length (xs ++ (x ∷ []))
    long = simp length-append (omega arith)

    after : at + (k + 1) ≡ suc (at + k)
    after = omega arith

    shift : (a b : List ℕ) (y : ℕ) (c : List ℕ) → (a ++ (b ++ (y ∷ []))) ++ c ≡ (a ++ b) ++ (y ∷ c)
    shift a b y c = ap (λ (l : List ℕ). l ++ c) (sym (append_assoc a b (y ∷ []))) ∙ append_assoc (a ++ b) (y ∷ []) c

-- digits from the last to the first, in any buffer from any place on: one more is written
pub digit_more : (base k n : ℕ) (l after whole : List ℕ) (at x : ℕ) → paste l at (digits base k n) k ≡ whole → after ≡ set l (at + (k - 1)) x → 0 < k → at + k ≤ length l
    → x ≡ glyph (n % base) → paste after at (digits base (k - 1) (n / base)) (k - 1) ≡ whole
digit_more base (suc k) n l after whole at x w e some room is =
    rw (e, is, p) (last_put l (digits base k (n / base)) (glyph (n % base)) at k (digits_length base k (n / base)) (omega arith) ∙ ap (λ (t : List ℕ). paste l at t (k + 1)) (sym (digits_last base k n)) ∙ ap (paste l at (digits base (suc k) n)) q ∙ w)
  where
    p : suc k - 1 ≡ k
    p = omega arith

    q : k + 1 ≡ suc k
    q = omega arith
digit_more base zero n l after whole at x w e some room is = absurd (omega arith)

-- the same in a buffer that they fill: one more is written, or none is left
module _ (base rest : ℕ) (out : List ℕ) where
  pub digit_next : (i x : ℕ) → 0 < i → i ≤ length out → x ≡ glyph (rest % base)
      → digits base (i - 1) (rest / base) ++ drop (i - 1) (set out (i - 1) x) ≡ digits base i rest ++ drop i out
  digit_next (suc k) x some inside e =
      let less : suc k - 1 ≡ k = omega arith in
      rw (less, e, drop-set out k (glyph (rest % base)) (omega arith), add-one k)
      (sym (append_assoc (digits base k (rest / base)) (glyph (rest % base) ∷ []) (drop (suc k) out))
      ∙ ap (λ (l : List ℕ). l ++ drop (suc k) out) (sym (digits_last base k rest)))
  digit_next zero x some inside e = absurd (omega arith)

  pub digits_done : (i : ℕ) → i ≡ 0 → out ≡ digits base i rest ++ drop i out
  unfolding digits
  digits_done i z = rw z refl

-- no number has more places
at_most : (t : Bool) (a b most : ℕ) → a ≤ most → b ≤ most → pick t a b ≤ most
at_most true a b most h k = h
at_most false a b most h k = k

most_from : (more k base n : ℕ) → places_from more k base n ≤ k + more
unfolding places_from
most_from zero k base n = omega arith
most_from (suc more) k base n = at_most (ltb n (base ^ k)) _ _ _ (omega arith) (omega (arith, most_from more (k + 1) base n))

pub places_most : (base n : ℕ) → places base n ≤ most_digits
unfolding places
places_most base n = omega (arith, most_from (most_digits - 1) 1 base n)

-- the places of a number below 2^64
module _ (base n : ℕ) (low : 10 ≤ base) (small : n < 2 ^ 64) where
  few : n < base ^ most_digits
  few = lt_of_lt_of_le {m = 10 ^ most_digits} (omega arith) (pow-le-pow_left low most_digits)

  -- the definition finds the fewest
  fewest_from : (more k : ℕ) → 1 ≤ k → k + more ≡ most_digits → ((j : ℕ) → 1 ≤ j → j < k → base ^ j ≤ n) → Fewest base n (places_from more k base n)
  unfolding places_from
  fewest_from zero k some all fewer =
      let last : k ≡ most_digits = omega arith in
      record { some = some; enough = rw last few; fewer = fewer }
  fewest_from (suc more) k some all fewer = go (dec_le (base ^ k) n) (fewest_from more (k + 1) (omega arith) (omega arith))
    where
      nor : base ^ k ≤ n → (j : ℕ) → 1 ≤ j → j < k + 1 → Dec (j < k) → base ^ j ≤ n
      nor l j one less (yes h) = fewer j one h
      nor l j one less (no h) =
          let here : j ≡ k = omega arith in
          rw here l

      go : Dec (base ^ k ≤ n) → (((j : ℕ) → 1 ≤ j → j < k + 1 → base ^ j ≤ n) → Fewest base n (places_from more (k + 1) base n))
          → Fewest base n (pick (ltb n (base ^ k)) k (places_from more (k + 1) base n))
      go (yes l) next = rw (le-ltb n (base ^ k) l) (next (λ j one less. nor l j one less (dec_lt j k)))
      go (no l) next =
          let less : n < base ^ k = omega arith in
          rw (lt-ltb n (base ^ k) less) (record { some = some; enough = less; fewer = fewer })

  fewest : Fewest base n (places base n)
  unfolding places
  fewest = fewest_from (most_digits - 1) 1 (omega arith) (omega arith) (λ j one less. absurd (omega arith))

  pub shortest : Shortest base n (numeral base n)
  shortest = rw (numeral_length base n) (numeral_is base n, fewest)

  -- fewer than the fewest there are not
  no_fewer : (j k : ℕ) → Fewest base n j → Fewest base n k → j ≤ k
  no_fewer j k p q = go (dec_le j k)
    where
      go : Dec (j ≤ k) → j ≤ k
      go (yes l) = l
      go (no l) = absurd (lt_irrefl _ (lt_of_lt_of_le q.enough (p.fewer k q.some (omega arith))))

  pub shortest_alone : (text : List ℕ) → Shortest base n text → text ≡ numeral base n
  shortest_alone text s =
      let same : length text ≡ places base n = omega (arith, no_fewer (length text) (places base n) s.1 fewest, no_fewer (places base n) (length text) fewest s.1) in
      s.0 ∙ ap (λ (k : ℕ). digits base k n) same ∙ sym (numeral_is base n)

  -- the power below a number, and so its places
  pub places_log : (m r : ℕ) → m ≡ max n 1 → base ^ r ≤ m → m < base * base ^ r → r + 1 ≡ places base n
  places_log m r e under over =
      omega (arith, no_fewer (r + 1) (places base n) here fewest, no_fewer (places base n) (r + 1) fewest here)
    where
      next : base * base ^ r ≡ base ^ (r + 1)
      next = mul_comm base (base ^ r) ∙ rw add-one (sym (pow-suc base r))

      once : base ^ 1 ≡ base
      once = pow-suc base 0 ∙ rw (pow-zero base) (one-mul base)

      fewer : (j : ℕ) → 1 ≤ j → j < r + 1 → base ^ j ≤ n
      fewer j one less =
          let more : base ^ 1 ≤ base ^ j = pow-le-pow_right {n = base} (omega arith) one in
          let most : base ^ j ≤ base ^ r = pow-le-pow_right {n = base} (omega arith) (omega arith) in
          omega (arith, once)

      here : Fewest base n (r + 1)
      here = record { some = omega arith; enough = omega (arith, next); fewer = fewer }
