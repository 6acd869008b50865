-- Laws of the count over the block map.
use mathlib.Core.Bool.{Bool, true, false, not, ◌&&◌}
use mathlib.Core.List.{List, [], ◌∷◌, ◌++◌}
use mathlib.Core.Path.{◌≡◌, refl, sym, ap, ◌∙◌}
use Prim.Native.Nat.{ℕ, zero, suc, ◌+◌, ◌-◌, ◌^◌, ◌≤◌, ◌<◌, min}
use native.Mathlib.Nat.{add-zero}
use native.Mathlib.Numerals.{add-one}
use native.Mathlib.Decide.{dec_le, ℕ_discrete}
use native.Mathlib.Omega.{arith}
use lib.Dec.{eqb}
use mir.Val.{bool_byte}
use Rattle.std.specs.List.{list_all}
use lib.ListN.{length, get_or, set, drop, replicate, length-set, drop_of_length-le}
use lib.Seq.{drop-cons, set_out}
use borrow.Author.Tests.{eq-eqb, ne_eqb}
use Rattle.fields.specs.Choice.{pick, choose}
use Rattle.block_map.specs.BlockMap.{owner_of, is_marked, is_used, count_in, first_in}
use Rattle.block_map.specs.clauses.Rows.{greatest_in, all_zero}
use Rattle.block_map.proofs.Rows.{greatest_zero, greatest_zeros, zero_row}
use Rattle.report.specs.declared.Lost.{Lost}
use Rattle.totals.specs.Totals.{unowned, is_lost, is_leaked, lost_of, lost_from, lost_in, consistent, inconsistent, verdict_of}
use Rattle.totals.specs.clauses.Counting.{first_kind, lost_kind, no_lost, one_more, lost_along, lost_after, counts_in}

by_test : (P : Bool → Type 0) → P true → P false → (t : Bool) → P t
by_test P met unmet true = met
by_test P met unmet false = unmet

-- a test's answer, added
counted : (met : Bool) (n : ℕ) → n + bool_byte met ≡ pick met (n + 1) n
counted true n = refl
counted false n = omega arith

pub counted_fits : (met : Bool) (n i : ℕ) → n ≤ i → n + bool_byte met ≤ i + 1
counted_fits true n i h = omega arith
counted_fits false n i h = omega arith

module _ (test : ℕ → Bool) where
  -- once there is one, the first stays
  along_some : (xs : List ℕ) (i : ℕ) (l : Lost) → 0 < l.count → lost_along test xs i l ≡ record { count = count_in test xs l.count; first = l.first }
  unfolding lost_along count_in
  along_some [] i l h = refl
  along_some (x ∷ xs) i l h =
      by_test (λ t. lost_along test xs (i + 1) (pick t (one_more i l) l) ≡ record { count = count_in test xs (pick t (l.count + 1) l.count); first = l.first })
      (along_some xs (i + 1) (one_more i l) (omega arith) ∙ rw (ne_eqb l.count 0 (λ e. omega arith)) refl)
      (along_some xs (i + 1) l h)
      (test x)

  along_none : (xs : List ℕ) (i : ℕ) → lost_along test xs i no_lost ≡ record { count = count_in test xs 0; first = first_in test xs i }
  unfolding lost_along count_in first_in
  along_none [] i = refl
  along_none (x ∷ xs) i =
      by_test (λ t. lost_along test xs (i + 1) (pick t (one_more i no_lost) no_lost) ≡ record { count = count_in test xs (pick t 1 0); first = choose t (λ _. i) (λ _. first_in test xs (i + 1)) })
      (along_some xs (i + 1) (one_more i no_lost) (omega arith))
      (along_none xs (i + 1))
      (test x)

  along_grows : (xs : List ℕ) (i : ℕ) (l : Lost) → l.count ≤ (lost_along test xs i l).count
  unfolding lost_along
  along_grows [] i l = omega arith
  along_grows (x ∷ xs) i l =
      by_test (λ t. l.count ≤ (lost_along test xs (i + 1) (pick t (one_more i l) l)).count)
      (omega (arith, along_grows xs (i + 1) (one_more i l)))
      (along_grows xs (i + 1) l)
      (test x)

  along_fits : (xs : List ℕ) (i : ℕ) (l : Lost) → (lost_along test xs i l).count ≤ l.count + length xs
  unfolding lost_along
  along_fits [] i l = omega arith
  along_fits (x ∷ xs) i l =
      by_test (λ t. (lost_along test xs (i + 1) (pick t (one_more i l) l)).count ≤ l.count + length (x ∷ xs))
      (omega (arith, along_fits xs (i + 1) (one_more i l)))
      (omega (arith, along_fits xs (i + 1) l))
      (test x)

  count_between : (xs : List ℕ) (n : ℕ) → (n ≤ count_in test xs n) × (count_in test xs n ≤ n + length xs)
  unfolding count_in
  count_between [] n = (omega arith, omega arith)
  count_between (x ∷ xs) n =
      by_test (λ t. (n ≤ count_in test xs (pick t (n + 1) n)) × (count_in test xs (pick t (n + 1) n) ≤ n + length (x ∷ xs)))
      (let h = count_between xs (n + 1) in (omega arith, omega arith))
      (let h = count_between xs n in (omega arith, omega arith))
      (test x)

  -- what is counted so far is at most the bytes
  pub count_fits : (cells xs : List ℕ) (n : ℕ) → count_in test xs n ≡ count_in test cells 0 → n ≤ length cells
  count_fits cells xs n e = omega (arith, (count_between xs n).0, (count_between cells 0).1)

  -- one byte more
  pub count_more : (cells : List ℕ) (i n : ℕ) (met : Bool) → i < length cells → met ≡ test (get_or cells i 0) → count_in test (drop (i + 1) cells) (n + bool_byte met) ≡ count_in test (drop i cells) n
  unfolding count_in
  count_more cells i n met h is = rw (drop-cons cells i 0 h, add-one, counted met n, is) refl

  -- n more and then those of a row, in a sum
  pub count_from : (xs : List ℕ) (n : ℕ) → count_in test xs n ≡ n + count_in test xs 0
  unfolding count_in
  count_from [] n = omega arith
  count_from (x ∷ xs) n =
      by_test (λ t. count_in test xs (pick t (n + 1) n) ≡ n + count_in test xs (pick t 1 0))
      (omega (arith, count_from xs (n + 1), count_from xs 1))
      (count_from xs n)
      (test x)

  count_append : (xs ys : List ℕ) (n : ℕ) → count_in test (xs ++ ys) n ≡ count_in test ys (count_in test xs n)
  unfolding count_in
  count_append [] ys n = refl
  count_append (x ∷ xs) ys n = count_append xs ys (pick (test x) (n + 1) n)

  -- one row more, of which m meet the test
  pub count_row : (left row rest : List ℕ) (n m whole : ℕ) → left ≡ row ++ rest → m ≡ count_in test row 0 → count_in test left n ≡ whole → count_in test rest (n + m) ≡ whole
  count_row left row rest n m whole cut e all = rw (e, ← count_from row n) (sym (count_append row rest n) ∙ sym (ap (λ (l : List ℕ). count_in test l n) cut) ∙ all)

  pub count_zeros : (k n : ℕ) → test 0 ≡ false → count_in test (replicate k 0) n ≡ n
  unfolding count_in
  count_zeros zero n z = refl
  count_zeros (suc k) n z = ap (λ (t : Bool). count_in test (replicate k 0) (pick t (n + 1) n)) z ∙ count_zeros k n z

  pub count_done : (cells : List ℕ) (i n : ℕ) → length cells ≤ i → count_in test (drop i cells) n ≡ n
  unfolding count_in
  count_done cells i n h = rw (drop_of_length-le cells h) refl

-- before the walk: each kind's are what the definition says
pub after_start : (cells : List ℕ) (n k : ℕ) → lost_after cells 0 k (replicate n no_lost) ≡ lost_from cells n k
unfolding lost_after lost_from lost_of
after_start cells zero k = refl
after_start cells (suc n) k = rw (along_none (is_lost k) cells 0, after_start cells n (k + 1)) refl

pub after_none : (i k : ℕ) (lost : List Lost) → lost_after [] i k lost ≡ lost
unfolding lost_after lost_along
after_none i k [] = refl
after_none i k (l ∷ ls) = ap (λ (rest : List Lost). l ∷ rest) (after_none i (k + 1) ls)

after_cons : (x : ℕ) (xs : List ℕ) (i k : ℕ) (lost : List Lost) → lost_after (x ∷ xs) i k lost ≡ lost_after xs (i + 1) k (lost_after (x ∷ []) i k lost)
unfolding lost_after lost_along
after_cons x xs i k [] = refl
after_cons x xs i k (l ∷ ls) = rw (after_cons x xs i (k + 1) ls) refl

after_append : (xs ys : List ℕ) (i k : ℕ) (lost : List Lost) → lost_after (xs ++ ys) i k lost ≡ lost_after ys (i + length xs) k (lost_after xs i k lost)
after_append [] ys i k lost = rw (after_none i k lost, add-zero) refl
after_append (x ∷ xs) ys i k lost = after_cons x (xs ++ ys) i k lost ∙ after_append xs ys (i + 1) k (lost_after (x ∷ []) i k lost) ∙ rw (next, ← after_cons x xs i k lost) refl
  where
    next : i + 1 + length xs ≡ i + suc (length xs)
    next = omega arith

-- each count so far is at most the bytes
after_grows : (xs : List ℕ) (i k : ℕ) (lost : List Lost) (j : ℕ) → (get_or lost j no_lost).count ≤ (get_or (lost_after xs i k lost) j no_lost).count
unfolding lost_after
after_grows xs i k [] j = omega arith
after_grows xs i k (l ∷ ls) zero = along_grows (is_lost k) xs i l
after_grows xs i k (l ∷ ls) (suc j) = after_grows xs i (k + 1) ls j

from_fits : (cells : List ℕ) (n k j : ℕ) → (get_or (lost_from cells n k) j no_lost).count ≤ length cells
unfolding lost_from lost_of
from_fits cells zero k j = omega arith
from_fits cells (suc n) k zero = omega (arith, (count_between (is_lost k) cells 0).1)
from_fits cells (suc n) k (suc j) = from_fits cells n (k + 1) j

pub lost_fits : (cells xs : List ℕ) (i n k : ℕ) (lost : List Lost) (j : ℕ) → lost_after xs i k lost ≡ lost_from cells n k → (get_or lost j no_lost).count ≤ length cells
lost_fits cells xs i n k lost j e = omega (arith, rw e at (after_grows xs i k lost j), from_fits cells n k j)

after_fits : (xs : List ℕ) (i k : ℕ) (lost : List Lost) (j : ℕ) → (get_or (lost_after xs i k lost) j no_lost).count ≤ (get_or lost j no_lost).count + length xs
unfolding lost_after
after_fits xs i k [] j = omega arith
after_fits xs i k (l ∷ ls) zero = along_fits (is_lost k) xs i l
after_fits xs i k (l ∷ ls) (suc j) = after_fits xs i (k + 1) ls j

-- in the middle of a row
pub lost_room : (row xs : List ℕ) (start i k : ℕ) (before lost : List Lost) (j : ℕ) → lost_after xs i k lost ≡ lost_after row start k before → (get_or lost j no_lost).count ≤ (get_or before j no_lost).count + length row
lost_room row xs start i k before lost j e = omega (arith, rw e at (after_grows xs i k lost j), after_fits row start k before j)

-- a byte's block is lost to one kind at most
lost_to : (k x : ℕ) → first_kind ≤ k → is_lost k x ≡ eqb (lost_kind x) k
unfolding is_lost lost_kind
lost_to k x h =
    by_test (λ t. (eqb (owner_of x) k && not t) ≡ eqb (pick t unowned (owner_of x)) k)
    (by_test (λ t. (t && false) ≡ false) refl refl (eqb (owner_of x) k) ∙ sym (ne_eqb 0 k (λ e. omega arith)))
    (by_test (λ t. (t && true) ≡ t) refl refl (eqb (owner_of x) k))
    (is_marked x)

-- one byte: lost to no kind from k on, or to the one at a place
after_other : (x i k : ℕ) (lost : List Lost) → first_kind ≤ k → lost_kind x < k → lost_after (x ∷ []) i k lost ≡ lost
unfolding lost_after lost_along
after_other x i k [] h o = refl
after_other x i k (l ∷ ls) h o =
    rw (lost_to k x h)
    (rw (ne_eqb (lost_kind x) k (λ e. omega arith))
    (rw (after_other x i (k + 1) ls (omega arith) (omega arith)) refl))

after_one : (x i k : ℕ) (lost : List Lost) (place : ℕ) → first_kind ≤ k → lost_kind x ≡ k + place → lost_after (x ∷ []) i k lost ≡ set lost place (one_more i (get_or lost place no_lost))
unfolding lost_after lost_along
after_one x i k [] place h e = refl
after_one x i k (l ∷ ls) zero h e =
    rw (lost_to k x h)
    (rw (eq-eqb (lost_kind x) k (omega arith))
    (rw (after_other x i (k + 1) ls (omega arith) (omega arith)) refl))
after_one x i k (l ∷ ls) (suc place) h e =
    rw (lost_to k x h)
    (rw (ne_eqb (lost_kind x) k (λ z. omega arith))
    (rw (after_one x i (k + 1) ls place (omega arith) (omega arith)) refl))

drop_more : {A : Type 0} (xs : List A) (i : ℕ) (d : A) → i < length xs → drop i xs ≡ get_or xs i d ∷ drop (i + 1) xs
drop_more xs i d h = rw add-one (drop-cons xs i d h)

-- the figures of the lost before and after byte i of a row: what is left of the walk gives the same
pub record Walked (row : List ℕ) (start i : ℕ) (lost next : List Lost) : Type 0 where
  pub long : length next ≡ length lost
  pub left : lost_after (drop (i + 1) row) (start + (i + 1)) first_kind next ≡ lost_after (drop i row) (start + i) first_kind lost

-- its block lost to no kind, counted at its kind's place, or to a number above the last kind
module _ (row : List ℕ) (start i : ℕ) (lost next : List Lost) (h : i < length row) (kind : ℕ) (e : kind ≡ lost_kind (get_or row i 0)) where
  walked : length next ≡ length lost → lost_after (get_or row i 0 ∷ []) (start + i) first_kind lost ≡ next → Walked row start i lost next
  walked l s = record { long = l; left = rw (← s, drop_more row i 0 h, block) (sym (after_cons (get_or row i 0) (drop (i + 1) row) (start + i) first_kind lost)) }
    where
      block : start + (i + 1) ≡ start + i + 1
      block = omega arith

  pub walked_skip : kind ≡ unowned → next ≡ lost → Walked row start i lost next
  walked_skip z s = walked (ap length s) (after_other (get_or row i 0) (start + i) first_kind lost (omega arith) (omega arith) ∙ sym s)

  module _ (owned : kind ≡ unowned → ⊥) where
    pub walked_add : next ≡ set lost (kind - first_kind) (one_more (start + i) (get_or lost (kind - first_kind) no_lost)) → Walked row start i lost next
    walked_add s = walked (ap length s ∙ simp length-set refl) (after_one (get_or row i 0) (start + i) first_kind lost (kind - first_kind) (omega arith) (omega arith) ∙ sym s)

    pub walked_past : length lost ≤ kind - first_kind → next ≡ lost → Walked row start i lost next
    walked_past past s = walked_add (s ∙ sym (set_out lost (kind - first_kind) _ past))

pub after_done : (row : List ℕ) (i block k : ℕ) (lost : List Lost) → length row ≤ i → lost_after (drop i row) block k lost ≡ lost
after_done row i block k lost h = rw (drop_of_length-le row h) (after_none block k lost)

-- no block of a row is lost where the greatest kind that lost one is none
pub after_quiet : (row : List ℕ) (i k : ℕ) (lost : List Lost) → first_kind ≤ k → greatest_in lost_kind row 0 ≡ 0 → lost_after row i k lost ≡ lost
after_quiet [] i k lost h z = after_none i k lost
after_quiet (x ∷ row) i k lost h z =
    let none = greatest_zero lost_kind x row z in
    after_cons x row i k lost ∙ rw (after_other x i k lost h (omega arith)) (after_quiet row (i + 1) k lost h none.1)

-- one row more: its lost blocks counted
pub after_row : (left row rest : List ℕ) (at k : ℕ) (lost next : List Lost) → left ≡ row ++ rest → next ≡ lost_after row at k lost → lost_after rest (at + length row) k next ≡ lost_after left at k lost
after_row left row rest at k lost next cut e = rw (e, cut) (sym (after_append row rest at k lost))

-- a row of zeros counts for nothing
pub zeros_count : (row : List ℕ) → all_zero row ≡ true → record { used = 0; leaked = 0; lost = unowned } ≡ counts_in row
unfolding is_leaked lost_kind
zeros_count row z = rw (zero_row row z) (rw (count_zeros is_used (length row) 0 refl, count_zeros is_leaked (length row) 0 refl, greatest_zeros lost_kind (length row) refl) refl)

-- the sum of the counts is 0 where each is
lost_grows : (lost : List Lost) (n : ℕ) → n ≤ lost_in lost n
unfolding lost_in
lost_grows [] n = omega arith
lost_grows (l ∷ ls) n = omega (arith, lost_grows ls (n + l.count))

pub none_counted : (lost : List Lost) → list_all (λ l. eqb l.count 0) lost ≡ eqb (lost_in lost 0) 0
unfolding lost_in
none_counted [] = refl
none_counted (l ∷ ls) = go (ℕ_discrete l.count 0) (none_counted ls)
  where
    go : Dec (l.count ≡ 0) → list_all (λ l. eqb l.count 0) ls ≡ eqb (lost_in ls 0) 0 → list_all (λ l. eqb l.count 0) (l ∷ ls) ≡ eqb (lost_in ls (0 + l.count)) 0
    go (yes z) others = rw z others
    go (no h) others = rw (ne_eqb l.count 0 h) (sym (ne_eqb (lost_in ls (0 + l.count)) 0 (λ e. h (omega (arith, lost_grows ls (0 + l.count))))))

-- the verdict, by whether there is anything wrong
module _ (lost : List Lost) (overlaps problems : ℕ) where
  pub verdict_clean : lost_in lost 0 ≡ 0 → overlaps ≡ 0 → problems ≡ 0 → consistent ≡ verdict_of lost overlaps problems
  unfolding verdict_of
  verdict_clean l o p = rw (eq-eqb (lost_in lost 0 + overlaps + problems) 0 (omega arith)) refl

  pub verdict_found : (lost_in lost 0 + overlaps + problems ≡ 0 → ⊥) → inconsistent ≡ verdict_of lost overlaps problems
  unfolding verdict_of
  verdict_found h = rw (ne_eqb (lost_in lost 0 + overlaps + problems) 0 h) refl

  -- overlaps as far as 64 bits go are none where there are none
  pub verdict_most : verdict_of lost (min overlaps (2 ^ 64 - 1)) problems ≡ verdict_of lost overlaps problems
  unfolding verdict_of
  verdict_most = ap (λ (t : Bool). pick t consistent inconsistent) (go (dec_le overlaps 0))
    where
      go : Dec (overlaps ≤ 0) → eqb (lost_in lost 0 + min overlaps (2 ^ 64 - 1) + problems) 0 ≡ eqb (lost_in lost 0 + overlaps + problems) 0
      go (yes none) =
          let same : lost_in lost 0 + min overlaps (2 ^ 64 - 1) + problems ≡ lost_in lost 0 + overlaps + problems = omega arith in
          ap (λ (n : ℕ). eqb n 0) same
      go (no some) =
          ne_eqb (lost_in lost 0 + min overlaps (2 ^ 64 - 1) + problems) 0 (λ e. omega arith)
          ∙ sym (ne_eqb (lost_in lost 0 + overlaps + problems) 0 (λ e. omega arith))
