-- Laws of a lookup: a key of the target's id, a search by halves, a leaf's turn, a child by its pointer, and the way down.
use mathlib.Core.Path.{◌≡◌, refl, sym, ap, ◌∙◌}
use mathlib.Core.Bool.{Bool, true, false}
use mathlib.Core.List.{List}
use Rattle.std.specs.Prelude.{Option, Some, Result, Ok, Err, IsErrAnd}
use Prim.Native.Nat.{ℕ, zero, suc, ◌+◌, ◌-◌, ◌/◌, ◌^◌, ◌≤◌, ◌<◌}
use native.Mathlib.Numerals.{add-one}
use native.Mathlib.Omega.{arith}
use lib.Dec.{ltb}
use borrow.Author.Tests.{lt-ltb, le-ltb, eq-eqb, ne_eqb}
use Rattle.fields.specs.Choice.{choose}
use Rattle.blocks.specs.Reads.{Reads, Outcome, done, given, refused, run, ◌>>=◌}
use Rattle.blocks.specs.clauses.Answers.{outcome, outcome_by, Always}
use Rattle.blocks.proofs.Laws.{then_given, then_refused, is_refused, at_ok, bind_assoc}
use Rattle.blocks.specs.declared.Container.{Container}
use Rattle.blocks.specs.declared.ObjectId.{ObjectId}
use Rattle.blocks.specs.declared.Refusal.{Refusal}
use Rattle.blocks.specs.declared.Refusal.TheVariants.{WrongLevel}
use Rattle.nodes.specs.Node.{Entry, is_leaf, level_of, key_count, entry, pointer, read_node}
use Rattle.nodes.specs.declared.Description.{Description}
use Rattle.nodes.specs.Scan.{one_below}
use Rattle.trees.specs.clauses.Walks.{pointer_of}
use Rattle.volumes.specs.Lookup.{is_above, above_at, search_from, search, child_at, lookup_from, lookup_le}
use Rattle.volumes.specs.clauses.Answers.{along_turn}
use Rattle.volumes.specs.declared.Turn.{Turn}

-- a key of the target's id is above it by its xid
pub above_equal : (id : ObjectId) (xid i x : ℕ) → i ≡ id.0 → ltb xid x ≡ is_above id xid i x
unfolding is_above
above_equal id xid i x e = let h : i ≤ id.0 = omega arith in simp (le-ltb id.0 i h, eq-eqb i id.0 e)

module _ (d : Description) (id : ObjectId) (xid : ℕ) (b : List ℕ) where
  -- what is searched once the middle key was compared
  abbrev pub halved : ℕ → ℕ → ℕ → Bool → Reads ℕ
  halved left lo hi a = choose a (λ _. search_from d id xid b left lo ((lo + hi) / 2)) (λ _. search_from d id xid b left ((lo + hi) / 2 + 1) hi)

  search_done : (left lo hi : ℕ) → hi ≤ lo → search_from d id xid b left lo hi ≡ done lo
  unfolding search_from
  search_done zero lo hi h = refl
  search_done (suc left) lo hi h = rw (le-ltb lo hi h) refl

  search_halves : (left lo hi : ℕ) → lo < hi → hi - lo ≤ left → search_from d id xid b left lo hi ≡ above_at d id xid b ((lo + hi) / 2) >>= halved (left - 1) lo hi
  unfolding search_from
  search_halves zero lo hi h k = absurd (omega arith)
  search_halves (suc left) lo hi h k = let less : suc left - 1 ≡ left = omega arith in rw (lt-ltb lo hi h, less) refl

  -- what is left of a search from lo up to hi is the whole; how many halvings are left stands here alone, and not in the code
  pub record Searching (lo hi : ℕ) : Type 0 where
    pub left : ℕ
    pub enough : hi - lo ≤ left
    pub most : hi < 2 ^ 32
    pub rest : (f : ℕ → List ℕ) → run f (search_from d id xid b left lo hi) ≡ run f (search d id xid b)

  pub searching_from : (n : ℕ) → n ≡ key_count b → n < 2 ^ 32 → Searching 0 n
  unfolding search
  searching_from n is h = record { left = n; enough = omega arith; most = h; rest = λ f. rw is refl }

  module _ {lo hi : ℕ} (s : Searching lo hi) where
    pub searching_done : hi ≤ lo → Always (given lo) (search d id xid b)
    unfolding run
    searching_done h f = sym (ap (run f) (search_done s.left lo hi h)) ∙ s.rest f

    module _ (h : lo < hi) where
      pub searching_halves : (f : ℕ → List ℕ) → run f (above_at d id xid b ((lo + hi) / 2) >>= halved (s.left - 1) lo hi) ≡ run f (search d id xid b)
      searching_halves f = sym (ap (run f) (search_halves s.left lo hi h s.enough)) ∙ s.rest f

      module _ {r : Result Bool Refusal} (e : Always (outcome r) (above_at d id xid b ((lo + hi) / 2))) where
        pub searching_below : r ≡ Ok true → Searching lo ((lo + hi) / 2)
        searching_below q = record { left = s.left - 1; enough = omega (arith, s.enough); most = omega (arith, s.most); rest = λ f. at_ok _ r f _ (e f) (halved (s.left - 1) lo hi) true q _ refl ∙ searching_halves f }

        pub searching_past : r ≡ Ok false → Searching ((lo + hi) / 2 + 1) hi
        searching_past q = record { left = s.left - 1; enough = omega (arith, s.enough); most = s.most; rest = λ f. at_ok _ r f _ (e f) (halved (s.left - 1) lo hi) false q _ refl ∙ searching_halves f }

-- an entry of a leaf
pub leaf_read : (f : ℕ → List ℕ) (d : Description) (b : List ℕ) (i : ℕ) (x : Entry) → run f (entry d b i) ≡ given x → run f (entry d b i >>= λ x. done (Some x)) ≡ given (Some x)
unfolding run
leaf_read f d b i x e = then_given f _ _ x e

-- a child, by its pointer
pub child_pointed : (c : Container) (d : Description) (level : ℕ) (b : List ℕ) (i : ℕ) → pointer_of d b i >>= (λ a. read_node c (record { 0 = a }) >>= one_below level) ≡ child_at c d level b i
unfolding child_at
child_pointed c d level b i = bind_assoc (entry d b i) (λ e. pointer e.value) _

module _ (f : ℕ → List ℕ) (c : Container) (d : Description) (id : ObjectId) (b : List ℕ) where
  -- a turn ends at the refusal that a `?` passes on
  pub turn_err : {T A : Type 0} (level : ℕ) (view : T → A) (s : Result T Refusal) (p : Reads A) → outcome_by view s ≡ run f p
      → (g : A → Reads (Option Entry)) (x : Refusal) → s ≡ Err x → (r : Result Turn Refusal) → IsErrAnd r (λ y. y ≡ x) → along_turn c d id f level b r ≡ run f (p >>= g)
  unfolding along_turn
  turn_err level view s p e g x q (Err y) same = ap refused same ∙ sym (then_refused f p g x (is_refused view s f p e x q))
  turn_err level view s p e g x q (Ok t) same = absurd same

  -- a leaf's turn is to the last entry that isn't above the target
  pub turn_leaf : (level n : ℕ) → run f (search d id c.xid b) ≡ given n → (n ≡ 0 → ⊥) → is_leaf b ≡ true → run f (lookup_from c d id (suc level) b) ≡ run f (entry d b (n - 1) >>= λ x. done (Some x))
  unfolding lookup_from
  turn_leaf level n e z l = then_given f _ _ n e ∙ rw (ne_eqb n 0 z, l) refl

  -- from the root's level down
  pub lookup_first : (l : ℕ) → l ≡ level_of b → run f (lookup_from c d id (l + 1) b) ≡ run f (lookup_le c d id b)
  unfolding lookup_le
  lookup_first l is = rw (add-one, is) refl

  -- what is left at a node is the whole
  module _ (left : ℕ) {whole : Outcome (Option Entry)} (inv : run f (lookup_from c d id left b) ≡ whole) where
    pub way_out : left ≤ 0 → refused WrongLevel ≡ whole
    unfolding run lookup_from
    way_out h = let z : left ≡ 0 = omega arith in (rw z at inv)

    pub way_told : 0 < left → (r : Result Turn Refusal) → along_turn c d id f (left - 1) b r ≡ run f (lookup_from c d id (suc (left - 1)) b) → (t : Result Turn Refusal) → r ≡ t → along_turn c d id f (left - 1) b t ≡ whole
    way_told h r e t q = let p : suc (left - 1) ≡ left = omega arith in sym (ap (along_turn c d id f (left - 1) b) q) ∙ (e ∙ rw p inv)
