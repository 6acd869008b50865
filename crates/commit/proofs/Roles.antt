-- The rule of Commit.antt about the blocks read, as a list of those that must stay: block 0, the taken superblock's, its map blocks,
-- and what is read once it is taken. Each form implies the other (`kept_untouched`, `kept_enough`).
use mathlib.Core.Path.{◌≡◌, refl, sym, ap, ◌∙◌}
use mathlib.Core.Bool.{Bool, true, false, not, ◌&&◌, true≢false}
use mathlib.Core.List.{List, [], ◌∷◌, ◌++◌, append_assoc}
use Prim.Native.Nat.{ℕ, zero, suc, ◌+◌, ◌≤◌, ◌<◌}
use native.Mathlib.Omega.{arith}
use native.Mathlib.Nat.{zero-add, not-suc-le-zero}
use lib.Dec.{leb, ltb, eqb}
use borrow.Author.Tests.{leb-true, leb-false, ltb-true, ltb-false, eqb-true, eqb-false, eq-eqb, ne_eqb}
use Rattle.fields.specs.Choice.{pick}
use Rattle.blocks.specs.Reads.{visits}
use Rattle.blocks.proofs.Laws.{and_left, and_right, visits_bind}
use Rattle.checkpoint.specs.Map.{chain}
use Rattle.checkpoint.specs.Checkpoint.{Taken, take_superblock}
use Rattle.checkpoint.specs.declared.Geometry.{Geometry}
use Rattle.space_check.specs.Check.{pass, rest}
use Rattle.commit.specs.Stores.{Store, block_touched}
use Rattle.commit.specs.Commit.{Takes, Excepted, TouchesNoneRead, blocks_read, times_read}
use Rattle.commit.proofs.Stores.{not_true}
use Rattle.commit.proofs.Choice.{numbers_from, take_visits}
use Rattle.commit.proofs.Taken.{stands, leads}

-- the blocks that a pass reads: block 0 apart, the descriptor area, the taken superblock's map blocks, and what follows
pub pass_visits : (f : ℕ → List ℕ) (g : Geometry) (map : List ℕ) (t : Taken) → Takes f g t
    → visits f (pass g map) ≡ numbers_from g.ring g.base ++ (visits f (chain g t.sb) ++ visits f (rest g map t))
unfolding pass
pass_visits f g map t takes =
    visits_bind f (take_superblock g) (rest g map)
    ∙ rw (takes.taken, take_visits f g t.at t.map (leads f g t takes), ← stands f g t takes, append_assoc) refl

-- how often a block is read, by the parts of a list

times_append : (n : ℕ) (xs ys : List ℕ) → times_read n (xs ++ ys) ≡ times_read n xs + times_read n ys
unfolding times_read
times_append n [] ys = omega arith
times_append n (x ∷ xs) ys = omega (arith, times_append n xs ys)

times_outside : (left a n : ℕ) → (a ≤ n → n < a + left → ⊥) → times_read n (numbers_from left a) ≡ 0
unfolding times_read numbers_from
times_outside zero a n h = refl
times_outside (suc left) a n h =
    let ne : n ≡ a → ⊥ = λ e. h (omega arith) (omega arith) in
    rw (ne_eqb n a ne, times_outside left (a + 1) n (λ k l. h (omega arith) (omega arith))) refl

-- each block of the descriptor area is read once
times_inside : (left a n : ℕ) → a ≤ n → n < a + left → times_read n (numbers_from left a) ≡ 1
unfolding times_read numbers_from
times_inside zero a n h k = absurd (omega arith)
times_inside (suc left) a n h k = go (eqb n a) refl (λ l. times_inside left (a + 1) n l (omega arith))
  where
    go : (t : Bool) → eqb n a ≡ t → (a + 1 ≤ n → times_read n (numbers_from left (a + 1)) ≡ 1)
        → pick t 1 0 + times_read n (numbers_from left (a + 1)) ≡ 1
    go true e next = let here : n ≡ a = eqb-true n a e in rw (times_outside left (a + 1) n (λ l m. omega arith)) refl
    go false e next = let ne : n ≡ a → ⊥ = eqb-false n a e in rw (next (omega arith)) refl

-- no block of a list meets a test

unfoldable pub none_of : (ℕ → Bool) → List ℕ → Bool
none_of test [] = true
none_of test (n ∷ ns) = not (test n) && none_of test ns

none_at : (test : ℕ → Bool) (l : List ℕ) → none_of test l ≡ true → (n : ℕ) → 0 < times_read n l → test n ≡ false
unfolding none_of times_read
none_at test [] e n h = absurd (not-suc-le-zero h)
none_at test (m ∷ ms) e n h = go (eqb n m) refl (λ k. none_at test ms (and_right (not (test m)) (none_of test ms) e) n k)
  where
    go : (t : Bool) → eqb n m ≡ t → (0 < times_read n ms → test n ≡ false) → test n ≡ false
    go true p next = rw (eqb-true n m p) (not_true (test m) (and_left (not (test m)) (none_of test ms) e))
    go false p next = next (rw zero-add at (rw p at h))

none_all : (test : ℕ → Bool) (l : List ℕ) → ((n : ℕ) → 0 < times_read n l → test n ≡ false) → none_of test l ≡ true
unfolding none_of times_read
none_all test [] h = refl
none_all test (m ∷ ms) h = rw (h m (rw (eq-eqb m m refl) (omega arith))) (none_all test ms (λ n k. h n (omega arith)))

-- the blocks that must stay
unfoldable pub kept : (ℕ → List ℕ) → Geometry → List ℕ → Taken → List ℕ
kept f g map t = 0 ∷ (g.base + t.at) ∷ (visits f (chain g t.sb) ++ visits f (rest g map t))

module _ (f : ℕ → List ℕ) (g : Geometry) (map : List ℕ) (t : Taken) (takes : Takes f g t) where
  abbrev area : List ℕ
  area = numbers_from g.ring g.base

  abbrev later : List ℕ
  later = visits f (chain g t.sb) ++ visits f (rest g map t)

  times_reads : (n : ℕ) → times_read n (blocks_read f g map) ≡ pick (eqb n 0) 1 0 + (times_read n area + times_read n later)
  unfolding blocks_read times_read
  times_reads n = ap (λ (l : List ℕ). pick (eqb n 0) 1 0 + times_read n l) (pass_visits f g map t takes) ∙ rw (times_append n area later) refl

  times_kept : (n : ℕ) → times_read n (kept f g map t) ≡ pick (eqb n 0) 1 0 + (pick (eqb n (g.base + t.at)) 1 0 + times_read n later)
  unfolding kept times_read
  times_kept n = refl

  -- what must stay is read, and is no exception
  kept_read : (n : ℕ) → 0 < times_read n (kept f g map t) → 0 < times_read n (blocks_read f g map)
  kept_read n h = go (eqb n (g.base + t.at)) refl
    where
      go : (b : Bool) → eqb n (g.base + t.at) ≡ b → 0 < times_read n (blocks_read f g map)
      go true e =
          let here : n ≡ g.base + t.at = eqb-true n (g.base + t.at) e in
          let inside = (leads f g t takes).inside in
          omega (arith, times_reads n, times_inside g.ring g.base n (omega arith) (omega arith))
      go false e = let parts = rw e at (times_kept n) in omega (arith, times_reads n)

  kept_not_excepted : (n : ℕ) → 0 < times_read n (kept f g map t) → Excepted g t (blocks_read f g map) n → ⊥
  kept_not_excepted n h x = go (eqb n (g.base + t.at)) refl
    where
      go : (b : Bool) → eqb n (g.base + t.at) ≡ b → ⊥
      go true e = let other = x.other in omega (arith, eqb-true n (g.base + t.at) e)
      go false e =
          let parts = rw e at (times_kept n) in
          omega (arith, times_reads n, x.once, times_inside g.ring g.base n x.descriptor.0 x.descriptor.1)

  pub kept_untouched : (ss : List Store) → TouchesNoneRead ss g t (blocks_read f g map) → none_of (block_touched ss g.size) (kept f g map t) ≡ true
  kept_untouched ss h = none_all _ _ (λ n k. go n k (block_touched ss g.size n) refl)
    where
      go : (n : ℕ) → 0 < times_read n (kept f g map t) → (b : Bool) → block_touched ss g.size n ≡ b → block_touched ss g.size n ≡ false
      go n k true e = absurd (kept_not_excepted n k (h n (kept_read n k) e))
      go n k false e = e

  -- and what is read, and needn't stay, is an exception
  excepted : (n : ℕ) → 0 < times_read n (blocks_read f g map) → times_read n (kept f g map t) ≡ 0 → Excepted g t (blocks_read f g map) n
  excepted n h z = record {
    descriptor = inside;
    other = other;
    once = omega (arith, times_kept n, times_reads n, times_inside g.ring g.base n inside.0 inside.1);
  }
    where
      other : n ≡ g.base + t.at → ⊥
      other e = let parts = rw (eq-eqb n (g.base + t.at) e) at (times_kept n) in omega arith

      inside : (g.base ≤ n) × (n < g.base + g.ring)
      inside = go (leb g.base n) refl (ltb n (g.base + g.ring)) refl
        where
          never : (g.base ≤ n → n < g.base + g.ring → ⊥) → ⊥
          never out = omega (arith, times_kept n, times_reads n, times_outside g.ring g.base n out)

          go : (a : Bool) → leb g.base n ≡ a → (b : Bool) → ltb n (g.base + g.ring) ≡ b → (g.base ≤ n) × (n < g.base + g.ring)
          go true p true q = (leb-true _ _ p, ltb-true _ _ q)
          go true p false q = absurd (never (λ l m. let past = ltb-false n (g.base + g.ring) q in omega arith))
          go false p b q = absurd (never (λ l m. let before = leb-false g.base n p in omega arith))

  pub kept_enough : (ss : List Store) → none_of (block_touched ss g.size) (kept f g map t) ≡ true → TouchesNoneRead ss g t (blocks_read f g map)
  kept_enough ss e n h touched = excepted n h (go (times_read n (kept f g map t)) refl)
    where
      go : (k : ℕ) → times_read n (kept f g map t) ≡ k → times_read n (kept f g map t) ≡ 0
      go zero p = p
      go (suc k) p = absurd (true≢false (sym touched ∙ none_at (block_touched ss g.size) (kept f g map t) e n (rw p (omega arith))))
