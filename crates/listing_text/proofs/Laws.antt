-- Pieces put on a page, and the loops over a format and over a list's lines; and the lost blocks of all kinds.
use Rattle.std.proofs.Common.{◌≡◌, ℕ, suc, ◌+◌, ◌%◌, ◌^◌, ◌<◌, ◌≤◌, Bool, true, false, eqb, List, [], ◌∷◌, ◌++◌, length, get_or, drop, sym, refl, ap, ◌∙◌, append_assoc, add-one, arith, lit≤, drop_of_length-le, drop-cons, ne_eqb, eq-eqb, le-leb}
use mathlib.Core.List.{flat_map}
use lib.Seq.{paste}
use Rattle.std.specs.List.{fold}
use borrow.Author.Tests.{lt-leb}
use Rattle.fields.specs.Choice.{pick}
use Rattle.report.specs.declared.Lost.{Lost}
use Rattle.totals.specs.Totals.{lost_in}
use Rattle.totals.specs.clauses.Counting.{no_lost}
use Rattle.listing_text.specs.Lines.{decimal_sign, hex_sign, name_sign, piece, taken, filled_from, lost_kind_line}
use Rattle.listing_text.specs.Listing.{claimant_if, claimants_from, claimant_line_of, lost_kind_line_of}
use Rattle.listing_text.specs.declared.page.Page.{Page}
use Rattle.listing_text.specs.clauses.Writing.{Written, up_to, put, put_all, on, Adds}

pub glue : {a a' b b' c c' : List ℕ} → a ≡ a' → b ≡ b' → c ≡ c' → (a ++ b) ++ c ≡ (a' ++ b') ++ c'
glue p q r = λ i. (p i ++ q i) ++ r i

-- a piece, and no room for it
module _ (text out : List ℕ) (at : ℕ) where
  pub put_whole : (after : List ℕ) (end : ℕ) → end ≡ at + length text → end ≤ length out → after ≡ paste out at text (length text)
      → up_to after end ≡ put text (up_to out at)
  unfolding put
  put_whole after end e room p = rw (p, e) (simp (le-leb _ _ (rw e at room)) refl)

  pub put_none : (end : ℕ) → length out < at + length text → end ≡ length out + 1 → up_to out end ≡ put text (up_to out at)
  unfolding put
  put_none end short e = ap (up_to out) e ∙ simp (lt-leb _ _ short)

-- pieces after pieces
all_then : (ts us : List (List ℕ)) (w : Written) → put_all (ts ++ us) w ≡ put_all us (put_all ts w)
unfolding put_all
all_then [] us w = refl
all_then (t ∷ ts) us w = all_then ts us (put t w)

pub nothing : (a : Page) → Adds a a []
unfolding put_all
nothing a = record { same = refl; written = refl }

pub one : (a b : Page) (t : List ℕ) → b.out.ghost_name ≡ a.out.ghost_name → on b ≡ put t (on a) → Adds a b (t ∷ [])
unfolding put_all
one a b t s p = record { same = s; written = p }

-- so `numeral_whole` and `numeral_cut` (proofs/Buffer.antt) are of what `put_numeral` leaves
pub put_alone : {a b : Page} {t : List ℕ} → Adds a b (t ∷ []) → on b ≡ put t (on a)
unfolding put_all
put_alone p = p.written

pub one_as : {a b : Page} {t u : List ℕ} → Adds a b (t ∷ []) → t ≡ u → Adds a b (u ∷ [])
one_as {a = a} {b = b} p e = rw (← e) p

pub ◌then◌ : {a b c : Page} {ts us : List (List ℕ)} → Adds a b ts → Adds b c us → Adds a c (ts ++ us)
◌then◌ {ts = ts} {us = us} p q =
    record { same = q.same ∙ p.same; written = q.written ∙ ap (put_all us) p.written ∙ sym (all_then ts us _) }

infixl 5 ◌then◌
-- lines of a figure that the code has made
pub by_figure : {a b : Page} (lines : ℕ → List (List ℕ)) {n m : ℕ} → n ≡ m → Adds a b (lines n) → Adds a b (lines m)
by_figure {a = a} {b = b} lines e p = rw (← e) p

-- a loop that puts pieces: some of all are left
pub record Left (before now : Page) (rest all : List (List ℕ)) : Type 0 where
  pub same : now.out.ghost_name ≡ before.out.ghost_name
  pub written : put_all rest (on now) ≡ put_all all (on before)

pub less_left : {a b c : Page} {rest all ts us : List (List ℕ)} → Left a b rest all → rest ≡ ts ++ us → Adds b c ts → Left a c us all
less_left {b = b} {ts = ts} {us = us} l e p =
    record { same = p.same ∙ l.same; written = ap (put_all us) p.written ∙ sym (all_then ts us (on b)) ∙ ap (λ (r : List (List ℕ)). put_all r (on b)) (sym e) ∙ l.written }

pub none_left : {a b : Page} {rest all : List (List ℕ)} → Left a b rest all → rest ≡ [] → Adds a b all
unfolding put_all
none_left {b = b} l e = record { same = l.same; written = ap (λ (r : List (List ℕ)). put_all r (on b)) (sym e) ∙ l.written }

-- the lines of a list's elements
module _ {A : Type 0} (f : A → List (List ℕ)) (xs : List A) (i : ℕ) where
  pub each_more : (d x : A) → i < length xs → x ≡ get_or xs i d → flat_map f (drop i xs) ≡ f x ++ flat_map f (drop (i + 1) xs)
  unfolding flat_map
  each_more d x h e = rw (add-one i, drop-cons xs i d h, e) refl

  pub each_done : length xs ≤ i → flat_map f (drop i xs) ≡ []
  unfolding flat_map
  each_done h = rw (drop_of_length-le xs h) refl

-- the lines of kinds that came second
flat_map_append : {A : Type 0} (f : A → List (List ℕ)) (xs ys : List A) → flat_map f (xs ++ ys) ≡ flat_map f xs ++ flat_map f ys
unfolding flat_map
flat_map_append f [] ys = refl
flat_map_append f (x ∷ xs) ys = rw (flat_map_append f xs ys) (sym (append_assoc (f x) (flat_map f xs) (flat_map f ys)))

module _ (ns : List ℕ) (i : ℕ) where
  pub claimants_more : i < length ns
      → flat_map claimant_line_of (claimants_from (i + 1) (drop i ns))
      ≡ flat_map claimant_line_of (claimant_if (i + 1) (get_or ns i 0)) ++ flat_map claimant_line_of (claimants_from (i + 1 + 1) (drop (i + 1) ns))
  unfolding claimants_from
  claimants_more h = rw (add-one i, drop-cons ns i 0 h) (flat_map_append claimant_line_of (claimant_if (suc i) (get_or ns i 0)) _)

  pub claimants_done : length ns ≤ i → flat_map claimant_line_of (claimants_from (i + 1) (drop i ns)) ≡ []
  unfolding claimants_from flat_map
  claimants_done h = rw (drop_of_length-le ns h) refl

-- the line of a kind, and none where it lost no block
module _ (lost : List Lost) (place : ℕ) (l : Lost) (e : l ≡ get_or lost place no_lost) where
  pub kind_line : (l.count ≡ 0 → ⊥) → lost_kind_line (place + 1) l.count l.first ≡ lost_kind_line_of lost place
  unfolding lost_kind_line_of
  kind_line some = rw (← e, ne_eqb l.count 0 some) refl

  pub no_kind_line : l.count ≡ 0 → [] ≡ lost_kind_line_of lost place
  unfolding lost_kind_line_of
  no_kind_line none = rw (← e, eq-eqb l.count 0 none) refl

-- the pieces of a format's bytes
pub taken_most : (c n : ℕ) → n ≡ taken c → n ≤ 1
unfolding taken
taken_most c n e = rw e (most (eqb c decimal_sign) (most (eqb c hex_sign) (most (eqb c name_sign) (lit≤ tt))))
  where
    most : (t : Bool) {n : ℕ} → n ≤ 1 → pick t 1 n ≤ 1
    most true h = lit≤ tt
    most false h = h

module _ (format figures : List ℕ) (i next : ℕ) where
  pub fill_more : (n t : ℕ) → i < length format → n ≡ get_or figures next 0 → t ≡ taken (get_or format i 0)
      → filled_from (drop i format) figures next ≡ (piece (get_or format i 0) n ∷ []) ++ filled_from (drop (i + 1) format) figures (next + t)
  unfolding filled_from
  fill_more n t h en et = rw (en, et, add-one i, drop-cons format i 0 h) refl

  pub fill_done : length format ≤ i → filled_from (drop i format) figures next ≡ []
  unfolding filled_from
  fill_done h = rw (drop_of_length-le format h) refl

-- lost blocks are summed modulo 2^64
same_sum : (lost : List Lost) (a b : ℕ) → a % 2 ^ 64 ≡ b % 2 ^ 64 → lost_in lost a % 2 ^ 64 ≡ lost_in lost b % 2 ^ 64
unfolding lost_in
same_sum [] a b h = h
same_sum (l ∷ ls) a b h = same_sum ls (a + l.count) (b + l.count) (omega arith)

pub lost_fold : (lost : List Lost) (n : ℕ) → n < 2 ^ 64 → fold (λ (sum : ℕ) (l : Lost). (sum + l.count) % 2 ^ 64) n lost ≡ lost_in lost n % 2 ^ 64
unfolding lost_in
lost_fold [] n h = omega arith
lost_fold (l ∷ ls) n h = lost_fold ls ((n + l.count) % 2 ^ 64) (omega arith) ∙ same_sum ls ((n + l.count) % 2 ^ 64) (n + l.count) (omega arith)
