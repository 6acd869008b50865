-- Laws of logs.
use Rattle.std.specs.Prelude.{Err, Ok, Result}
use Rattle.std.proofs.Common.{◌≡◌, ℕ, zero, suc, ◌+◌, ◌-◌, ◌^◌, ◌<◌, ◌≤◌, min, List, [], ◌∷◌, length, get_or, drop, set, sym, refl, ap, ◌∙◌, zero-le, add-one, arith, length-set, drop_of_length-le, drop-cons, le-ltb, lt-ltb}
use lib.Seq.{set_out}
use native.Mathlib.Decide.{dec_le}
use Rattle.blocks.specs.Reads.{done, given, refused, run, ◌>>=◌}
use Rattle.blocks.specs.Blocks.{sum}
use Rattle.blocks.proofs.Laws.{sum_fits, sum_passes, then_given, then_refused}
use Rattle.blocks.specs.declared.Refusal.TheVariants.{Overflow}
use Rattle.block_map.specs.BlockMap.{update}
use Rattle.block_map.proofs.Laws.{update_set}
use Rattle.report.specs.Report.{logged, sum_of, overlap_figure, overlap_total, count_claimant, note, add_overlap}
use Rattle.blocks.specs.clauses.Answers.{outcome, Always}
use Rattle.blocks.specs.declared.Refusal.{Refusal}
use Rattle.report.specs.declared.Overlap.{Overlap}
use Rattle.report.specs.declared.OverlapLog.{OverlapLog}

-- where x stands in a log with room, and in a full one
module _ {A : Type 0} (total : ℕ) (x : A) (first : List A) where
  pub note_room : total < logged → note total x first ≡ set first total x
  unfolding note
  note_room h = simp (lt-ltb _ _ h)

  pub note_full : logged ≤ total → note total x first ≡ first
  unfolding note
  note_full h = simp (le-ltb _ _ h)

-- one more counted, and refused where the count can't grow
module _ {L : Type 0} (total : ℕ) (next : ℕ → L) where
  pub count_more : total < 2 ^ 64 - 1 → (log : L) → log ≡ next (total + 1) → Always (given log) (sum total 1 >>= λ n. done (next n))
  unfolding run
  count_more h log e f = ap given e ∙ sym (then_given f (sum total 1) (λ n. done (next n)) _ (sum_fits f total 1 (omega arith)))

  pub count_refused : 2 ^ 64 - 1 ≤ total → Always (refused Overflow) (sum total 1 >>= λ n. done (next n))
  count_refused h f = sym (then_refused f _ _ _ (sum_passes f total 1 (omega arith)))

-- numbers added up, one after the other, as far as 64 bits go
module _ (ns : List ℕ) (i total : ℕ) where
  pub sum_done : length ns ≤ i → sum_of (drop i ns) ≡ 0
  unfolding sum_of
  sum_done h = rw (drop_of_length-le ns h) refl

  sum_split : i < length ns → sum_of (drop i ns) ≡ get_or ns i 0 + sum_of (drop (i + 1) ns)
  unfolding sum_of
  sum_split h = rw (add-one i, drop-cons ns i 0 h) refl

  pub sum_more : (next most whole : ℕ) → i < length ns → next ≡ min (total + get_or ns i 0) most → min (total + sum_of (drop i ns)) most ≡ whole → min (next + sum_of (drop (i + 1) ns)) most ≡ whole
  sum_more next most whole h e left = omega (arith, sum_split h)

-- none is more than all of them
pub one_of_sum : (ns : List ℕ) (i : ℕ) → get_or ns i 0 ≤ sum_of ns
unfolding sum_of
one_of_sum [] i = zero-le
one_of_sum (n ∷ ns) zero = omega arith
one_of_sum (n ∷ ns) (suc i) = omega (arith, one_of_sum ns i)

-- one more for a kind, and none where there is no such kind
module _ (kind place : ℕ) (claimants after : List ℕ) (e : place ≡ kind - 1) where
  pub claimant_counted : after ≡ set claimants place (get_or claimants place 0 + 1) → after ≡ count_claimant kind claimants
  unfolding count_claimant
  claimant_counted p = rw (← e) (p ∙ sym (update_set (λ n. n + 1) place claimants))

  pub claimant_unknown : length claimants ≤ place → after ≡ claimants → after ≡ count_claimant kind claimants
  unfolding count_claimant
  claimant_unknown h p = rw (← e) (p ∙ sym (update_set (λ n. n + 1) place claimants ∙ set_out claimants place _ h))

-- which keeps how many kinds there are, and adds one at most
pub counted_all : (kind : ℕ) (claimants : List ℕ) → length (count_claimant kind claimants) ≡ length claimants
unfolding count_claimant
counted_all kind claimants = ap length (update_set (λ n. n + 1) (kind - 1) claimants) ∙ length-set claimants (kind - 1) _

pub counted_most : (kind : ℕ) (claimants : List ℕ) → sum_of (count_claimant kind claimants) ≤ sum_of claimants + 1
unfolding count_claimant sum_of update
counted_most kind claimants = most (kind - 1) claimants
  where
    most : (place : ℕ) (ns : List ℕ) → sum_of (update (λ n. n + 1) place ns) ≤ sum_of ns + 1
    most place [] = omega arith
    most zero (n ∷ ns) = omega arith
    most (suc place) (n ∷ ns) = omega (arith, most place ns)

-- one overlap more, where their total can grow and where it can't
module _ (o : Overlap) (l : OverlapLog) (n : ℕ) (e : n ≡ overlap_figure l) where
  pub overlap_more : (claimants : List ℕ) (first : List Overlap) → (n ≡ 2 ^ 64 - 1 → ⊥) → claimants ≡ count_claimant o.claimant l.claimants → first ≡ note n o l.first
      → Always (given (record { claimants = claimants; first = first })) (add_overlap o l)
  unfolding add_overlap
  overlap_more claimants first room p q =
      let exact : n ≡ sum_of l.claimants = omega arith in
      count_more _ _ (omega arith) _ (rw (p, q, exact) refl)

  pub overlap_refused : n ≡ 2 ^ 64 - 1 → Always (refused Overflow) (add_overlap o l)
  unfolding add_overlap
  overlap_refused full = count_refused _ _ (omega arith)

-- a count of overlaps that has room for one more is the sum itself, and one that hasn't is refused like the sum
module _ (l : OverlapLog) (n : ℕ) (e : n ≡ overlap_figure l) (r : Result ℕ Refusal) (f : ℕ → List ℕ) (h : outcome r ≡ run f (sum n 1)) where
  overlap_full : 2 ^ 64 - 1 ≤ n → run f (sum n 1) ≡ refused Overflow
  overlap_full k = sum_passes f n 1 (omega arith)

  pub overlap_room : (t : ℕ) → r ≡ Ok t → n < 2 ^ 64 - 1
  overlap_room t q = go (dec_le (2 ^ 64 - 1) n)
    where
      go : Dec (2 ^ 64 - 1 ≤ n) → n < 2 ^ 64 - 1
      go (yes k) = let never : given t ≡ refused Overflow = sym (ap outcome q) ∙ (h ∙ overlap_full k) in let z : ◌≡◌ {A = ℕ} 0 1 = cc in absurd (omega arith)
      go (no k) = omega arith

  pub overlap_exact : (t : ℕ) → r ≡ Ok t → n ≡ sum_of l.claimants
  overlap_exact t q = omega (arith, overlap_room t q, e)

  -- the log once there was room
  pub overlap_added : (o : Overlap) (t : ℕ) → r ≡ Ok t → (claimants : List ℕ) → claimants ≡ count_claimant o.claimant l.claimants → (first : List Overlap) → first ≡ note n o l.first
      → given (record { claimants = claimants; first = first }) ≡ run f (add_overlap o l)
  overlap_added o t q claimants p first is = overlap_more o l n e claimants first (λ full. omega (overlap_room t q, full, arith)) p is f

  pub overlap_err : (x : Refusal) → r ≡ Err x → run f (sum (overlap_total l) 1) ≡ refused x
  overlap_err x q = go (dec_le (2 ^ 64 - 1) n)
    where
      go : Dec (2 ^ 64 - 1 ≤ n) → run f (sum (overlap_total l) 1) ≡ refused x
      go (yes k) = sum_passes f (overlap_total l) 1 (omega arith) ∙ (sym (overlap_full k) ∙ (sym h ∙ ap outcome q))
      go (no k) = let never : refused x ≡ given (n + 1) = sym (ap outcome q) ∙ (h ∙ sum_fits f n 1 (omega arith)) in let z : ◌≡◌ {A = ℕ} 0 1 = cc in absurd (omega arith)
