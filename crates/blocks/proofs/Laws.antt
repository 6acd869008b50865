-- Laws of passes: a sequence, by its parts; and that an answer depends on the blocks read alone.
use mathlib.Core.Path.{◌≡◌, refl, sym, ap, ◌∙◌, subst}
use mathlib.Core.Bool.{Bool, true, false, ◌&&◌, true≢false}
use mathlib.Core.List.{List, [], ◌∷◌, ◌++◌}
use Prim.Native.Nat.{ℕ, ◌+◌, ◌*◌, ◌/◌, ◌^◌, ◌≤◌, ◌<◌}
use native.Mathlib.Nat.{le_trans, mul-le-mul_right, add-mul, one-mul, div-lt_iff_lt-mul, le-div_iff_mul-le}
use lib.ListN.{length, length-take, length-drop}
use native.Mathlib.Omega.{arith}
use borrow.Author.Tests.{lt-ltb, le-ltb}
use Rattle.blocks.specs.Reads.{Reads, done, refuse, read, Outcome, given, refused, run, visits, ◌>>=◌, need}
use Rattle.std.specs.Prelude.{Result, Ok, Err, IsErrAnd}
use Rattle.fletcher.specs.Fletcher.{verifies}
use Rattle.blocks.specs.Blocks.{block_of, read_raw, read_object, sum}
use Rattle.blocks.specs.clauses.Answers.{outcome_by}
use Rattle.blocks.specs.declared.Address.{Address}
use Rattle.blocks.specs.declared.Container.{Container}
use Rattle.blocks.specs.declared.Refusal.{Refusal}
use Rattle.blocks.specs.declared.Refusal.TheVariants.{PastContainer, BadChecksum, Overflow}

-- what follows an outcome
abbrev pub and_then : {A B : Type 0} → Outcome A → (A → Outcome B) → Outcome B
and_then (given a) g = g a
and_then (refused r) g = refused r

abbrev pub visits_then : {A : Type 0} → Outcome A → (A → List ℕ) → List ℕ
visits_then (given a) g = g a
visits_then (refused r) g = []

pub run_bind : {A B : Type 0} (f : ℕ → List ℕ) (p : Reads A) (g : A → Reads B) → run f (p >>= g) ≡ and_then (run f p) (λ a. run f (g a))
unfolding run ◌>>=◌
run_bind f (done a) g = refl
run_bind f (refuse r) g = refl
run_bind f (read n k) g = run_bind f (k (f n)) g

pub visits_bind : {A B : Type 0} (f : ℕ → List ℕ) (p : Reads A) (g : A → Reads B) → visits f (p >>= g) ≡ visits f p ++ visits_then (run f p) (λ a. visits f (g a))
unfolding run visits ◌>>=◌
visits_bind f (done a) g = refl
visits_bind f (refuse r) g = refl
visits_bind f (read n k) g = ap (λ (l : List ℕ). n ∷ l) (visits_bind f (k (f n)) g)

-- a sequence, once its first pass has ended
module _ {A B : Type 0} (f : ℕ → List ℕ) (p : Reads A) (g : A → Reads B) where
  pub then_given : (a : A) → run f p ≡ given a → run f (p >>= g) ≡ run f (g a)
  then_given a e = run_bind f p g ∙ rw e refl

  pub then_refused : (r : Refusal) → run f p ≡ refused r → run f (p >>= g) ≡ refused r
  then_refused r e = run_bind f p g ∙ rw e refl

-- a step of the code answered what a pass does
module _ {T A : Type 0} (view : T → A) (r : Result T Refusal) (f : ℕ → List ℕ) (p : Reads A) (e : outcome_by view r ≡ run f p) where
  pub is_refused : (x : Refusal) → r ≡ Err x → run f p ≡ refused x
  is_refused x q = sym e ∙ ap (outcome_by view) q

  pub is_given : (t : T) → r ≡ Ok t → run f p ≡ given (view t)
  is_given t q = sym e ∙ ap (outcome_by view) q

  -- a `?` after it ends the sequence at a refusal, and goes on otherwise
  pub at_err : {U B : Type 0} (seen : U → B) (g : A → Reads B) (x : Refusal) → r ≡ Err x → (s : Result U Refusal) → IsErrAnd s (λ y. y ≡ x) → outcome_by seen s ≡ run f (p >>= g)
  at_err seen g x q (Err y) same = ap refused same ∙ sym (then_refused f p g x (is_refused x q))
  at_err seen g x q (Ok u) same = absurd same

  pub at_ok : {B : Type 0} (g : A → Reads B) (t : T) → r ≡ Ok t → (o : Outcome B) → o ≡ run f (g (view t)) → o ≡ run f (p >>= g)
  at_ok g t q o h = h ∙ sym (then_given f p g (view t) (is_given t q))

-- what follows a test, by the way that it goes
module _ {A : Type 0} (f : ℕ → List ℕ) (b : Bool) (r : Refusal) (k : Unit {0} → Reads A) where
  pub need_true : b ≡ true → run f (need b r >>= k) ≡ run f (k tt)
  unfolding run need ◌>>=◌
  need_true e = rw e refl

  pub need_false : b ≡ false → run f (need b r >>= k) ≡ refused r
  unfolding run need ◌>>=◌
  need_false e = rw e refl

-- two images agree on each block of a list
unfoldable pub Agree : (ℕ → List ℕ) → (ℕ → List ℕ) → List ℕ → Type 0
Agree f g [] = Unit {0}
Agree f g (n ∷ ns) = (f n ≡ g n) × Agree f g ns

-- images that agree on the blocks a pass reads in one of them give it the same answer
pub local : {A : Type 0} (f g : ℕ → List ℕ) (p : Reads A) → Agree f g (visits f p) → run g p ≡ run f p
unfolding run visits Agree
local f g (done a) h = refl
local f g (refuse r) h = refl
local f g (read n k) h = ap (λ b. run g (k b)) (sym h.0) ∙ local f g (k (f n)) h.1

-- where both tests held, each did
pub and_left : (a b : Bool) → (a && b) ≡ true → a ≡ true
and_left true b e = refl
and_left false b e = e

pub and_right : (a b : Bool) → (a && b) ≡ true → b ≡ true
and_right true b e = e
and_right false b e = absurd (true≢false (sym e))

-- where an answer came after a test, the test held
pub need_held : {A : Type 0} (f : ℕ → List ℕ) (b : Bool) (r : Refusal) (k : Unit {0} → Reads A) (a : A) → run f (need b r >>= k) ≡ given a → (b ≡ true) × (run f (k tt) ≡ given a)
unfolding run need ◌>>=◌
need_held f true r k a e = (refl, e)
need_held {A} f false r k a e = absurd (subst is_refused e tt)
  where
    is_refused : Outcome A → Type 0
    is_refused (given a) = ⊥
    is_refused (refused r) = Unit {0}

-- where a sequence gave an answer, its first pass did
pub record Both {A B : Type 0} (f : ℕ → List ℕ) (p : Reads A) (g : A → Reads B) (b : B) : Type 0 where
  pub first : A
  pub came : run f p ≡ given first
  pub rest : run f (g first) ≡ given b

pub both : {A B : Type 0} (f : ℕ → List ℕ) (p : Reads A) (g : A → Reads B) (b : B) → run f (p >>= g) ≡ given b → Both f p g b
both {A} f p g b e = go (run f p) refl
  where
    go : (o : Outcome A) → run f p ≡ o → Both f p g b
    go (given a) q = record { first = a; came = q; rest = sym (then_given f p g a q) ∙ e }
    go (refused r) q =
        let never : refused r ≡ given b = sym (then_refused f p g r q) ∙ e in
        let z : ◌≡◌ {A = ℕ} 0 1 = cc in absurd (omega arith)

-- the steps of Blocks.antt, by the way that their test goes

pub sum_fits : (f : ℕ → List ℕ) (a b : ℕ) → a + b < 2 ^ 64 → run f (sum a b) ≡ given (a + b)
unfolding run sum need ◌>>=◌
sum_fits f a b h = simp (lt-ltb _ _ h)

pub sum_passes : (f : ℕ → List ℕ) (a b : ℕ) → 2 ^ 64 ≤ a + b → run f (sum a b) ≡ refused Overflow
unfolding run sum need ◌>>=◌
sum_passes f a b h = simp (le-ltb _ _ h)

pub raw_there : (f : ℕ → List ℕ) (c : Container) (a : Address) → a.0 < c.count → run f (read_raw c a) ≡ given (f a.0)
unfolding run read_raw need ◌>>=◌
raw_there f c a h = simp (lt-ltb _ _ h)

pub raw_past : (f : ℕ → List ℕ) (c : Container) (a : Address) → c.count ≤ a.0 → run f (read_raw c a) ≡ refused PastContainer
unfolding run read_raw need ◌>>=◌
raw_past f c a h = simp (le-ltb _ _ h)

-- two numbers of half a word's width
pub half_product : (a b : ℕ) → a < 2 ^ 32 → b < 2 ^ 32 → a * b < 2 ^ 64
half_product a b h k = omega (arith, mul-le-mul_right {m = a} {n = 2 ^ 32} b (omega arith))

-- a block number whose block would begin past the image's end
pub begins_past : (len size n : ℕ) → 0 < size → len / size < n → len ≤ n * size
begins_past len size n h k = omega (arith, (div-lt_iff_lt-mul h).0 k)

pub begins_inside : (len size n : ℕ) → 0 < size → n ≤ len / size → n * size ≤ len
begins_inside len size n h k = (le-div_iff_mul-le h).0 k

-- a block below the count has the block size's bytes, in an image that holds them all
pub block_length : (image : List ℕ) (size count n : ℕ) → count * size ≤ length image → n < count → length (block_of image size n) ≡ size
unfolding block_of
block_length image size count n h k = simp (length-take, length-drop) (omega (arith, inside))
  where
    inside : n * size + size ≤ length image
    inside = le_trans (rw e (mul-le-mul_right size p)) h
      where
        p : n + 1 ≤ count
        p = omega arith

        e : n * size + size ≡ (n + 1) * size
        e = simp (add-mul, one-mul)

module _ (f : ℕ → List ℕ) (c : Container) (a : Address) where
  -- what was read, where something was
  pub object_given : (b : List ℕ) → run f (read_object c a) ≡ given b → b ≡ f a.0
  unfolding run read_object ◌>>=◌
  object_given b e =
      let inside = need_held f _ _ _ b e in
      let sums = need_held f _ _ _ b inside.1 in
      let same : given (f a.0) ≡ given b = sums.1 in cc

  pub object_zero : a.0 ≡ 0 → run f (read_object c a) ≡ refused PastContainer
  unfolding run read_object need ◌>>=◌
  object_zero e = rw e refl

  pub object_past : 0 < a.0 → c.count ≤ a.0 → run f (read_object c a) ≡ refused PastContainer
  unfolding run read_object need ◌>>=◌
  object_past h k = simp (lt-ltb _ _ h, le-ltb _ _ k)

  module _ (h : 0 < a.0) (k : a.0 < c.count) where
    -- what is left, once the address is
    object_read : run f (read_object c a) ≡ run f (need (verifies (f a.0)) BadChecksum >>= λ _. done (f a.0))
    unfolding run read_object need ◌>>=◌
    object_read = simp (lt-ltb _ _ h, lt-ltb _ _ k)

    pub object_there : verifies (f a.0) ≡ true → run f (read_object c a) ≡ given (f a.0)
    unfolding run need ◌>>=◌
    object_there e = object_read ∙ rw e refl

    pub object_bad : verifies (f a.0) ≡ false → run f (read_object c a) ≡ refused BadChecksum
    unfolding run need ◌>>=◌
    object_bad e = object_read ∙ rw e refl

-- one pass after two, or after the first of them
pub bind_assoc : {A B C : Type 0} (p : Reads A) (q : A → Reads B) (k : B → Reads C) → p >>= q >>= k ≡ p >>= (λ a. q a >>= k)
unfolding ◌>>=◌
bind_assoc (done a) q k = refl
bind_assoc (refuse r) q k = refl
bind_assoc (read n g) q k = λ i. read n (λ b. bind_assoc (g b) q k i)

-- one pass, and then nothing
pub bind_done : {A : Type 0} (p : Reads A) → p >>= done ≡ p
unfolding ◌>>=◌
bind_done (done a) = refl
bind_done (refuse r) = refl
bind_done (read n g) = λ i. read n (λ b. bind_done (g b) i)
