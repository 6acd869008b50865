-- The only sound superblock with the highest xid is tried first, and what the pass reads then.
use Rattle.std.specs.Prelude.{None, Option, Some}
use mathlib.Core.Path.{◌≡◌, refl, ap, ◌∙◌}
use mathlib.Core.Bool.{Bool, true, false, ◌&&◌}
use mathlib.Core.List.{List, [], ◌∷◌, ◌++◌, append-nil}
use mathlib.Core.Logic.{◌≢◌}
use Prim.Native.Nat.{ℕ, zero, suc, ◌+◌, ◌<◌}
use native.Mathlib.Omega.{arith}
use native.Mathlib.Nat.{add-zero, zero-add, not-suc-le-zero}
use lib.Dec.{ltb}
use lib.ListN.{get_or}
use borrow.Author.Tests.{lt-ltb, le-ltb}
use Rattle.fields.specs.Choice.{pick}
use Rattle.fields.specs.Header.{xid_of}
use Rattle.blocks.specs.Reads.{Reads, done, ◌>>=◌, run, visits, given}
use Rattle.blocks.proofs.Laws.{run_bind, visits_bind}
use Rattle.checkpoint.specs.Superblock.{sound}
use Rattle.checkpoint.specs.clauses.InPlace.{blocks_from}
use Rattle.checkpoint.proofs.SearchLaws.{area_run, blocks_at}
use Rattle.checkpoint.specs.Map.{chain}
use Rattle.checkpoint.specs.Checkpoint.{Taken, area_from, is_after, is_ahead, best_from, loaded, try, try_from, take_superblock}
use Rattle.checkpoint.specs.declared.Geometry.{Geometry}
use Rattle.checkpoint.specs.declared.Candidate.{Candidate}
use Rattle.checkpoint.specs.declared.Mapping.{Mapping}

-- the numbers of the blocks from a on
unfoldable pub numbers_from : ℕ → ℕ → List ℕ
numbers_from zero a = []
numbers_from (suc left) a = a ∷ numbers_from left (a + 1)

area_visits : (f : ℕ → List ℕ) (left a : ℕ) → visits f (area_from left a) ≡ numbers_from left a
unfolding visits area_from numbers_from ◌>>=◌
area_visits f zero a = refl
area_visits f (suc left) a = ap (λ (l : List ℕ). a ∷ l) (visits_bind f (area_from left (a + 1)) (λ bs. done (f a ∷ bs)) ∙ rw (area_run f left (a + 1), append-nil) (area_visits f left (a + 1)))

-- every sound block of the left from a on has an xid below x
abbrev Below : (ℕ → List ℕ) → ℕ → ℕ → ℕ → Type 0
Below f x left a = (j : ℕ) → j < left → sound (f (a + j)) ≡ true → xid_of (f (a + j)) < x

-- every one but the one at index k
abbrev pub BelowBut : (ℕ → List ℕ) → ℕ → ℕ → ℕ → ℕ → Type 0
BelowBut f x k left a = (j : ℕ) → j < left → j ≢ k → sound (f (a + j)) ≡ true → xid_of (f (a + j)) < x

below_head : (f : ℕ → List ℕ) (x left a : ℕ) → Below f x (suc left) a → sound (f a) ≡ true → xid_of (f a) < x
below_head f x left a h e = rw add-zero at (h 0 (omega arith) (rw add-zero e))

below_tail : (f : ℕ → List ℕ) (x left a : ℕ) → Below f x (suc left) a → Below f x left (a + 1)
below_tail f x left a h j hj e = let same : a + suc j ≡ a + 1 + j = omega arith in rw same at (h (suc j) (omega arith) (rw same e))

but_head : (f : ℕ → List ℕ) (x k left a : ℕ) → BelowBut f x (suc k) (suc left) a → sound (f a) ≡ true → xid_of (f a) < x
but_head f x k left a h e = rw add-zero at (h 0 (omega arith) (omega arith) (rw add-zero e))

but_tail : (f : ℕ → List ℕ) (x k left a : ℕ) → BelowBut f x (suc k) (suc left) a → BelowBut f x k left (a + 1)
but_tail f x k left a h j hj ne e = let same : a + suc j ≡ a + 1 + j = omega arith in rw same at (h (suc j) (omega arith) (omega arith) (rw same e))

but_first : (f : ℕ → List ℕ) (x left a : ℕ) → BelowBut f x 0 (suc left) a → Below f x left (a + 1)
but_first f x left a h j hj e = let same : a + suc j ≡ a + 1 + j = omega arith in rw same at (h (suc j) (omega arith) (omega arith) (rw same e))

-- the best stays the best among lower ones
stays_here : (s : Bool) (x : ℕ) (c c' : Candidate) → (s ≡ true → x < c.xid) → pick (s && true && ltb c.xid x) (Some c') (Some c) ≡ Some c
stays_here true x c c' h = rw (le-ltb c.xid x (let lower : x < c.xid = h refl in omega arith)) refl
stays_here false x c c' h = refl

stays : (f : ℕ → List ℕ) (left i a : ℕ) (c : Candidate) → Below f c.xid left a → best_from None i (blocks_from f left a) (Some c) ≡ Some c
unfolding best_from blocks_from is_after is_ahead
stays f zero i a c low = refl
stays f (suc left) i a c low =
    ap (best_from None (i + 1) (blocks_from f left (a + 1))) (stays_here (sound (f a)) (xid_of (f a)) c (record { at = i; xid = xid_of (f a) }) (below_head f c.xid left a low))
    ∙ stays f left (i + 1) (a + 1) c (below_tail f c.xid left a low)

-- a block of a lower xid leaves the best below x
lower_here : (s : Bool) (y x : ℕ) (best : Option Candidate) (i : ℕ) → is_ahead best x ≡ true → (s ≡ true → y < x) → is_ahead (pick (s && true && is_ahead best y) (Some (record { at = i; xid = y })) best) x ≡ true
unfolding is_ahead
lower_here false y x best i e h = e
lower_here true y x best i e h = go (is_ahead best y)
  where
    go : (t : Bool) → is_ahead (pick t (Some (record { at = i; xid = y })) best) x ≡ true
    go true = lt-ltb y x (h refl)
    go false = e

wins_here : (s : Bool) (y x i : ℕ) (best : Option Candidate) → s ≡ true → y ≡ x → is_ahead best x ≡ true → pick (s && true && is_ahead best y) (Some (record { at = i; xid = y })) best ≡ Some (record { at = i; xid = x })
wins_here s y x i best es ey e = rw (es, ey, e) refl

-- the one of the highest xid is found
finds : (f : ℕ → List ℕ) (x k left i a : ℕ) (best : Option Candidate) → k < left → sound (f (a + k)) ≡ true → xid_of (f (a + k)) ≡ x → BelowBut f x k left a → is_ahead best x ≡ true
    → best_from None i (blocks_from f left a) best ≡ Some (record { at = i + k; xid = x })
unfolding best_from blocks_from is_after
finds f x k zero i a best h s q low e = absurd (not-suc-le-zero h)
finds f x zero (suc left) i a best h s q low e =
    let here = wins_here (sound (f a)) (xid_of (f a)) x i best (rw add-zero at s) (rw add-zero at q) e in
    ap (best_from None (i + 1) (blocks_from f left (a + 1))) here ∙ (stays f left (i + 1) (a + 1) (record { at = i; xid = x }) (but_first f x left a low) ∙ rw (add-zero i) refl)
finds f x (suc k) (suc left) i a best h s q low e =
    let same : a + suc k ≡ a + 1 + k = omega arith in
    let next : i + 1 + k ≡ i + suc k = omega arith in
    finds f x k left (i + 1) (a + 1)
    (pick (sound (f a) && true && is_ahead best (xid_of (f a))) (Some (record { at = i; xid = xid_of (f a) })) best)
    (omega arith)
    (rw same at s)
    (rw same at q)
    (but_tail f x k left a low)
    (lower_here (sound (f a)) (xid_of (f a)) x best i e (but_head f x k left a low))
    ∙ ap {B = (Option Candidate)} (λ (n : ℕ). Some (record { at = n; xid = x })) next

-- the superblock at index at is the only sound one with the highest xid, and its chain loads as ms
pub record Leads (f : ℕ → List ℕ) (g : Geometry) (at : ℕ) (ms : List Mapping) : Type 0 where
  pub inside : at < g.ring
  pub is_sound : sound (f (g.base + at)) ≡ true
  pub highest : BelowBut f (xid_of (f (g.base + at))) at g.ring g.base
  pub loads : run f (chain g (f (g.base + at))) ≡ given (Some ms)

abbrev pub taken_at : (ℕ → List ℕ) → Geometry → ℕ → List Mapping → Taken
taken_at f g at ms = record { sb = f (g.base + at); at = at; map = ms }

-- it is tried first, and taken
module _ (f : ℕ → List ℕ) (g : Geometry) (at : ℕ) (ms : List Mapping) (t : Leads f g at ms) where
  abbrev area : List (List ℕ)
  area = blocks_from f g.ring g.base

  abbrev best : Candidate
  best = record { at = 0 + at; xid = xid_of (f (g.base + at)) }

  best_found : best_from None 0 area None ≡ Some best
  unfolding is_ahead
  best_found = finds f (xid_of (f (g.base + at))) at g.ring 0 g.base None t.inside t.is_sound refl t.highest refl

  in_area : get_or area (0 + at) [] ≡ f (g.base + at)
  in_area = rw zero-add (blocks_at f g.ring g.base at t.inside)

  try_run : (again : Candidate → Reads Taken) → run f (try g area again (Some best)) ≡ given (taken_at f g at ms)
  unfolding try loaded run
  try_run again = rw in_area (run_bind f (chain g (f (g.base + at))) _ ∙ rw (t.loads, zero-add) refl)

  try_visits : (again : Candidate → Reads Taken) → visits f (try g area again (Some best)) ≡ visits f (chain g (f (g.base + at)))
  unfolding try loaded visits
  try_visits again = rw in_area (visits_bind f (chain g (f (g.base + at))) _ ∙ rw t.loads (append-nil _))

  first_run : (left : ℕ) → at < left → run f (try_from g area left None) ≡ given (taken_at f g at ms)
  unfolding try_from
  first_run zero h = absurd (not-suc-le-zero h)
  first_run (suc left) h = rw best_found (try_run _)

  first_visits : (left : ℕ) → at < left → visits f (try_from g area left None) ≡ visits f (chain g (f (g.base + at)))
  unfolding try_from
  first_visits zero h = absurd (not-suc-le-zero h)
  first_visits (suc left) h = rw best_found (try_visits _)

  pub take_run : run f (take_superblock g) ≡ given (taken_at f g at ms)
  unfolding take_superblock
  take_run = run_bind f (area_from g.ring g.base) _ ∙ rw (area_run f g.ring g.base) (first_run g.ring t.inside)

  pub take_visits : visits f (take_superblock g) ≡ numbers_from g.ring g.base ++ visits f (chain g (f (g.base + at)))
  unfolding take_superblock
  take_visits = visits_bind f (area_from g.ring g.base) _ ∙ rw (area_run f g.ring g.base, area_visits f g.ring g.base, first_visits g.ring t.inside) refl
