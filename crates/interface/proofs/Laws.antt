-- Laws of numbers stored in a row.
use mathlib.Core.List.{List, [], ◌∷◌, ◌++◌, map, flat_map, flatten}
use mathlib.Core.Path.{◌≡◌, refl, sym, ap, ◌∙◌}
use Prim.Native.Nat.{ℕ, zero, suc, ◌+◌, ◌*◌, ◌-◌, ◌≤◌, ◌<◌}
use native.Mathlib.Nat.{add-zero, mul-zero}
use native.Mathlib.Numerals.{add-one}
use native.Mathlib.Omega.{arith}
use lib.ListN.{length, get_or, set, take, drop, length-append, length-set, length-map, drop_of_length-le}
use lib.Seq.{slice, slice-cons, slice_empty, length-slice, drop-cons, take-nil}
use Rattle.report.specs.Report.{overlap_figure, kinds, ending_number}
use Rattle.report.specs.declared.Answer.{Answer}
use Rattle.report.specs.declared.Report.{Report}
use Rattle.interface.specs.Places.{refusal_at, problem_at, free_at, overlaps_at, overlap_at, lost_at, leaked_at, claimants_at, free_ring_at, answer_figures}
use Rattle.interface.specs.Figures.{problem_figures, overlap_figures, lost_figures, audit_figures, base_kinds, claim_figures, base_figures, later_figures, figures_of, written}
use Rattle.interface.specs.clauses.Stored.{stored, Stores, later_at}

length_stored : (l : List ℕ) (at : ℕ) (xs : List ℕ) → length (stored l at xs) ≡ length l
unfolding stored
length_stored l at [] = refl
length_stored l at (x ∷ xs) = length_stored (set l at x) (suc at) xs ∙ length-set l at x

-- stores keep the length
pub same_stores : (a b : List ℕ) (i j : ℕ) (xs ys : List ℕ) → stored a i xs ≡ stored b j ys → length a ≡ length b
same_stores a b i j xs ys e = sym (length_stored a i xs) ∙ ap length e ∙ length_stored b j ys

-- two rows, one after the other
stored_append : (l : List ℕ) (at : ℕ) (xs ys : List ℕ) → stored l at (xs ++ ys) ≡ stored (stored l at xs) (at + length xs) ys
unfolding stored
stored_append l at [] ys = rw add-zero refl
stored_append l at (x ∷ xs) ys = stored_append (set l at x) (suc at) xs ys ∙ ap (λ (k : ℕ). stored (stored (set l at x) (suc at) xs) k ys) (omega arith)

pub stores_then : (l m n : List ℕ) (from next to : ℕ) (xs ys : List ℕ) → Stores l m from next xs → Stores m n next to ys → Stores l n from to (xs ++ ys)
stores_then l m n from next to xs ys s t =
    (simp length-append (omega (arith, s.0, t.0)), t.1 ∙ rw (s.1, ← s.0) (sym (stored_append l from xs ys)))

pub stores_one : (l after : List ℕ) (at x : ℕ) → after ≡ set l at x → Stores l after at (at + 1) (x ∷ [])
unfolding stored
stores_one l after at x e = (refl, e)

-- a row stored number by number: what is left once the i-th is stored, and the whole once none is left
module _ (xs : List ℕ) (at i : ℕ) where
  pub number_stored : (l after : List ℕ) (x : ℕ) → after ≡ set l (at + i) x → x ≡ get_or xs i 0 → i < length xs
      → stored after (at + (i + 1)) (drop (i + 1) xs) ≡ stored l (at + i) (drop i xs)
  unfolding stored
  number_stored l after x e is h =
      let k : at + (i + 1) ≡ suc (at + i) = omega arith in
      rw (e, is, k, add-one, drop-cons xs i 0)

  pub numbers_stored : (l after : List ℕ) → length xs ≤ i → stored after (at + i) (drop i xs) ≡ stored l at xs
      → Stores l after at (at + length xs) xs
  unfolding stored
  numbers_stored l after h left = (refl, ends ∙ left)
    where
      ends : after ≡ stored after (at + i) (drop i xs)
      ends = rw (drop_of_length-le xs h) refl

-- the same of a list's rows, each w numbers long
module _ {A : Type 0} (f : A → List ℕ) (w : ℕ) (each : (x : A) → length (f x) ≡ w) where
  length_rows : (xs : List A) (n : ℕ) → length xs ≡ n → length (flat_map f xs) ≡ w * n
  unfolding flat_map
  length_rows [] n e = rw (← e) (sym (mul-zero w))
  length_rows (x ∷ xs) (suc n) e = simp length-append (rw (each x, length_rows xs n (omega arith)) (omega arith))
  length_rows (x ∷ xs) zero e = omega arith

  module _ (xs : List A) (at i : ℕ) where
    pub row_stored : (d : A) (l after : List ℕ) (next : ℕ) → Stores l after (at + w * i) next (f (get_or xs i d)) → i < length xs
        → stored after (at + w * (i + 1)) (flat_map f (drop (i + 1) xs)) ≡ stored l (at + w * i) (flat_map f (drop i xs))
    unfolding flat_map
    row_stored d l after next s h =
        let k : at + w * (i + 1) ≡ (at + w * i) + length (f (get_or xs i d)) = rw each (omega arith) in
        rw (s.1, k, add-one, drop-cons xs i d) (sym (stored_append l (at + w * i) (f (get_or xs i d)) (flat_map f (drop (suc i) xs))))

    pub rows_stored : (l after : List ℕ) (n : ℕ) → length xs ≡ n → n ≤ i → stored after (at + w * i) (flat_map f (drop i xs)) ≡ stored l at (flat_map f xs)
        → Stores l after at (at + w * n) (flat_map f xs)
    unfolding flat_map stored
    rows_stored l after n e h left = (ap (λ (k : ℕ). at + k) (length_rows xs n e), ends ∙ left)
      where
        ends : after ≡ stored after (at + w * i) (flat_map f (drop i xs))
        ends = let k : length xs ≤ i = omega arith in rw (drop_of_length-le xs k) refl

-- the same of a number from each element of a list's part
module _ {A : Type 0} (f : A → ℕ) (xs : List A) (to : ℕ) (inside : to ≤ length xs) (at i : ℕ) where
  pub part_stored : (d : A) (l after : List ℕ) (x next : ℕ) → after ≡ set l at x → x ≡ f (get_or xs i d) → next ≡ suc at → i < to
      → stored after next (map f (slice (i + 1) to xs)) ≡ stored l at (map f (slice i to xs))
  unfolding stored
  part_stored d l after x next e is n h = rw (e, is, n, add-one, slice-cons i to xs d h inside)

  pub parts_stored : (l after : List ℕ) (from k : ℕ) → i ≡ to → stored after k (map f (slice i to xs)) ≡ stored l at (map f (slice from to xs))
      → Stores l after at (at + (to - from)) (map f (slice from to xs))
  unfolding stored
  parts_stored l after from k e left = (simp (length-map, length-slice), ends ∙ left)
    where
      ends : after ≡ stored after k (map f (slice i to xs))
      ends = rw (e, slice_empty to xs) refl

-- a row past a list's first place
stored_tail : (y : ℕ) (l : List ℕ) (at : ℕ) (xs : List ℕ) → stored (y ∷ l) (suc at) xs ≡ y ∷ stored l at xs
unfolding stored
stored_tail y l at [] = refl
stored_tail y l at (x ∷ xs) = stored_tail y (set l at x) (suc at) xs

stored_nowhere : (at : ℕ) (xs : List ℕ) → stored [] at xs ≡ []
unfolding stored
stored_nowhere at [] = refl
stored_nowhere at (x ∷ xs) = stored_nowhere (suc at) xs

-- a row from the first place on
stored_first : (l xs : List ℕ) → stored l 0 xs ≡ take (length l) xs ++ drop (length xs) l
unfolding stored
stored_first l [] = rw take-nil refl
stored_first [] (x ∷ xs) = stored_nowhere 1 xs
stored_first (y ∷ l) (x ∷ xs) = stored_tail x l 0 xs ∙ ap (λ (r : List ℕ). x ∷ r) (stored_first l xs)

-- the parts of an answer, one after the other
pub audit_stored : (a : Answer) (l₀ l₁ l₂ l₃ : List ℕ) (n : ℕ) → n ≡ ending_number a.ending
    → Stores l₀ l₁ refusal_at problem_at (n ∷ a.report.xid ∷ a.report.pool_used ∷ a.report.pool_unused ∷ a.report.problems.total ∷ [])
    → Stores l₁ l₂ problem_at free_at (flat_map problem_figures a.report.problems.first)
    → Stores l₂ l₃ free_at overlaps_at (a.report.free ∷ a.report.wrong_chunks ∷ a.report.device_free ∷ [])
    → Stores l₀ l₃ refusal_at overlaps_at (audit_figures a)
unfolding audit_figures flatten
audit_stored a l₀ l₁ l₂ l₃ n number head problems counted =
    rw (← number) (stores_then _ _ _ _ _ _ _ _ head (stores_then _ _ _ _ _ _ _ _ problems counted))

pub claims_stored : (r : Report) (l₀ l₁ l₂ l₃ l₄ : List ℕ) (n : ℕ) → n ≡ overlap_figure r.overlaps → l₁ ≡ set l₀ overlaps_at n
    → Stores l₁ l₂ overlap_at lost_at (flat_map overlap_figures r.overlaps.first)
    → Stores l₂ l₃ lost_at leaked_at (lost_figures (slice 0 base_kinds r.lost))
    → Stores l₃ l₄ leaked_at later_at (r.leaked ∷ r.verdict ∷ [])
    → Stores l₀ l₄ overlaps_at later_at (claim_figures r)
unfolding claim_figures flatten
claims_stored r l₀ l₁ l₂ l₃ l₄ n e total first lost totals =
    stores_then _ _ _ _ _ _ _ _ (stores_one _ _ _ _ (total ∙ ap (set l₀ overlaps_at) e)) (stores_then _ _ _ _ _ _ _ _ first (stores_then _ _ _ _ _ _ _ _ lost totals))

pub base_stored : (a : Answer) (l₀ l₁ l₂ : List ℕ) → Stores l₀ l₁ refusal_at overlaps_at (audit_figures a)
    → Stores l₁ l₂ overlaps_at later_at (claim_figures a.report) → Stores l₀ l₂ refusal_at later_at (base_figures a)
unfolding base_figures
base_stored a l₀ l₁ l₂ = stores_then l₀ l₁ l₂ refusal_at overlaps_at later_at (audit_figures a) (claim_figures a.report)

pub later_stored : (r : Report) (l₀ l₁ l₂ l₃ : List ℕ) → Stores l₀ l₁ later_at claimants_at (lost_figures (slice base_kinds kinds r.lost))
    → Stores l₁ l₂ claimants_at free_ring_at r.overlaps.claimants → l₃ ≡ set l₂ free_ring_at r.free_ring
    → Stores l₀ l₃ later_at answer_figures (later_figures r)
unfolding later_figures flatten
later_stored r l₀ l₁ l₂ l₃ lost claimants ring =
    stores_then _ _ _ _ _ _ _ _ lost (stores_then _ _ _ _ _ _ _ _ claimants (stores_one _ _ _ _ ring))

pub all_written : (a : Answer) (l₀ l₁ l₂ : List ℕ) → Stores l₀ l₁ refusal_at later_at (base_figures a)
    → Stores l₁ l₂ later_at answer_figures (later_figures a.report) → l₂ ≡ written a l₀
unfolding written figures_of
all_written a l₀ l₁ l₂ base later =
    let all = stores_then l₀ l₁ l₂ refusal_at later_at answer_figures (base_figures a) (later_figures a.report) base later in
    let n : length (figures_of a) ≡ answer_figures = omega (arith, all.0) in
    all.1 ∙ stored_first l₀ (figures_of a) ∙ rw n refl
