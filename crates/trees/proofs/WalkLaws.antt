-- Laws of physical walks.
use mathlib.Core.Path.{◌≡◌, refl, sym, ap, ◌∙◌}
use mathlib.Core.Logic.{◌≢◌}
use mathlib.Core.Bool.{true, false}
use mathlib.Core.List.{List, [], ◌∷◌}
use Prim.Native.Nat.{ℕ, zero, suc, ◌+◌, ◌-◌, ◌<◌, pred}
use native.Mathlib.Numerals.{add-one}
use native.Mathlib.Omega.{arith}
use lib.Dec.{ltb}
use borrow.Author.Tests.{lt-ltb, le-ltb, ltb-true}
use Rattle.blocks.specs.Reads.{Reads, Outcome, given, refused, run, no_blocks, ◌>>=◌}
use Rattle.blocks.specs.Blocks.{read_object}
use Rattle.blocks.proofs.Laws.{then_given, then_refused, need_true, need_false, need_held, both, and_right, bind_assoc}
use Rattle.blocks.specs.declared.Address.{Address}
use Rattle.blocks.specs.declared.Container.{Container}
use Rattle.blocks.specs.declared.Refusal.{Refusal}
use Rattle.blocks.specs.declared.Refusal.TheVariants.{TooManyNodes}
use Rattle.nodes.specs.Node.{is_leaf, key_count, entry, pointer, parse, read_node}
use Rattle.nodes.specs.Walk.{Walked, children_from, next_node, each, children_of, walk_below}
use Rattle.nodes.specs.declared.Description.{Description}
use Rattle.nodes.proofs.Laws.{node_given}
use Rattle.trees.specs.clauses.Walks.{pointer_of, pointer_at, pointers_down, next_below}
use Rattle.trees.specs.clauses.Read.{NodeRead}

-- the pointers of a node, from the i-th of n on; those before are found
module _ (f : ℕ → List ℕ) (d : Description) (b : List ℕ) where
  abbrev pub children_left : ℕ → ℕ → List ℕ → Outcome (List ℕ)
  children_left left i found = run f (children_from d b left i found)

  pub children_step : (left i : ℕ) (found : List ℕ) → children_left (suc left) i found ≡ run f (pointer_of d b i >>= λ a. children_from d b left (i + 1) (a ∷ found))
  unfolding children_from
  children_step left i found = sym (ap (run f) (bind_assoc (entry d b i) (λ e. pointer e.value) (λ a. children_from d b left (i + 1) (a ∷ found))))

  module _ (n i : ℕ) where
    pub children_done : i ≡ n → children_left (n - i) i (pointers_down d b i) ≡ given (pointers_down d b n)
    unfolding run children_from
    children_done e = let z : n - i ≡ 0 = omega arith in rw (z, e) refl

    module _ (h : i < n) where
      one_less : n - i ≡ suc (n - (i + 1))
      one_less = omega arith

      pub children_next : (found : List ℕ) → children_left (n - i) i found ≡ run f (pointer_of d b i >>= λ a. children_from d b (n - (i + 1)) (i + 1) (a ∷ found))
      children_next found = rw one_less (children_step (n - (i + 1)) i found)

      pub children_more : (a : ℕ) → run f (pointer_of d b i) ≡ given a → run no_blocks (pointer_of d b i) ≡ given a → children_left (n - i) i (pointers_down d b i) ≡ children_left (n - (i + 1)) (i + 1) (pointers_down d b (i + 1))
      unfolding pointers_down pointer_at
      children_more a e p = children_next (pointers_down d b i) ∙ (then_given f _ _ a e ∙ rw (add-one, p) refl)

-- two answers of one pass are one
pub given_same : {A : Type 0} (o : Outcome A) (a b : A) → o ≡ given a → o ≡ given b → a ≡ b
given_same o a b p q = cc

-- a node whose turn has come, where one more level and one more node may come
pub node_turn : (f : ℕ → List ℕ) (c : Container) (left : ℕ) (a : Address) (b : List ℕ) → run f (next_node c left a) ≡ given b → (0 < left) × NodeRead f c a.0 × (b ≡ f a.0)
unfolding next_node
node_turn f c left a b e =
    let held = need_held f _ _ _ b e in
    let is = node_given f c a b held.1 in (ltb-true _ _ held.0, held.1 ∙ ap given is, is)

module _ (f : ℕ → List ℕ) (c : Container) (left : ℕ) (a : Address) where
  pub next_deep : (levels : ℕ) → levels ≡ 0 → run f (next_below c levels left a) ≡ refused TooManyNodes
  unfolding run next_below
  next_deep levels e = rw e refl

  pub next_many : (levels : ℕ) → levels ≢ 0 → left ≡ 0 → run f (next_below c levels left a) ≡ refused TooManyNodes
  unfolding next_below next_node
  next_many zero deeper e = absurd (deeper refl)
  next_many (suc levels) deeper e = need_false f _ _ _ (le-ltb 0 left (omega arith))

  pub next_read : (levels : ℕ) → levels ≢ 0 → left ≢ 0 → run f (next_below c levels left a) ≡ run f (read_node c a)
  unfolding next_below next_node
  next_read zero deeper more = absurd (deeper refl)
  next_read (suc levels) deeper more = need_true f _ _ _ (lt-ltb 0 left (omega arith))

  pub next_given : (levels : ℕ) (b : List ℕ) → run f (next_below c levels left a) ≡ given b → (0 < levels) × (0 < left) × NodeRead f c a.0
  unfolding run next_below
  next_given zero b e = let z : ◌≡◌ {A = ℕ} 0 1 = cc in absurd (omega arith)
  next_given (suc levels) b e = let turn = node_turn f c left a b e in (omega arith, turn.0, turn.1)

-- a container that a node was read from has a block
pub read_some : (f : ℕ → List ℕ) (c : Container) (a : ℕ) → NodeRead f c a → 0 < c.count
unfolding read_node read_object
read_some f c a e =
    let object = both f (read_object c (record { 0 = a })) parse (f a) e in
    let inside : a < c.count = ltb-true _ _ (and_right (ltb 0 a) _ (need_held f _ _ _ object.first object.came).0) in omega arith

pub pred_less : (n : ℕ) → pred n ≡ n - 1
pred_less zero = refl
pred_less (suc n) = omega arith

module _ {S : Type 0} (f : ℕ → List ℕ) (visit : S → Address → Reads S) (c : Container) (d : Description) where
  -- a node whose turn comes
  module _ (a : ℕ) (w : Walked S) where
    abbrev entered : ℕ → List ℕ → Reads (Walked S)
    entered below b = visit w.state (record { 0 = a }) >>= λ s. children_of visit c d (walk_below visit c d below) b (record { left = w.left - 1; state = s })

    pub walk_next : (levels : ℕ) → run f (walk_below visit c d levels a w) ≡ run f (next_below c levels w.left (record { 0 = a }) >>= entered (levels - 1))
    unfolding run walk_below next_below ◌>>=◌
    walk_next zero = refl
    walk_next (suc n) =
        let one : suc n - 1 ≡ n = omega arith in
        rw (one, pred_less w.left) refl

    -- one that was read, before its visit and after it, by what it is
    module _ (levels : ℕ) (deeper : 0 < levels) (more : 0 < w.left) (read : NodeRead f c a) where
      pub walk_entered : run f (walk_below visit c d levels a w) ≡ run f (entered (levels - 1) (f a))
      walk_entered = walk_next levels ∙ then_given f _ _ (f a) (next_read f c w.left _ levels (omega arith) (omega arith) ∙ read)

      module _ (s : S) (e : run f (visit w.state (record { 0 = a })) ≡ given s) (b : List ℕ) (is : b ≡ f a) where
        pub walk_leaf : is_leaf b ≡ true → run f (walk_below visit c d levels a w) ≡ given (record { left = w.left - 1; state = s })
        unfolding run children_of
        walk_leaf leaf = walk_entered ∙ (then_given f _ _ s e ∙ rw (← is, leaf) refl)

        pub walk_index : is_leaf b ≡ false → run f (walk_below visit c d levels a w) ≡ run f (children_from d b (key_count b) 0 [] >>= λ cs. each visit c d (walk_below visit c d (levels - 1)) cs (record { left = w.left - 1; state = s }))
        unfolding children_of
        walk_index index = walk_entered ∙ (then_given f _ _ s e ∙ rw (← is, index) refl)

  -- the first k children, the last first
  abbrev pub each_left : ℕ → List ℕ → ℕ → Walked S → Outcome (Walked S)
  each_left levels b k w = run f (each visit c d (walk_below visit c d levels) (pointers_down d b k) w)

  module _ (levels : ℕ) (b : List ℕ) (k : ℕ) (w : Walked S) where
    pub each_done : k ≡ 0 → each_left levels b k w ≡ given w
    unfolding run each pointers_down
    each_done e = rw e refl

    module _ (some : 0 < k) (a : ℕ) (is : a ≡ pointer_at d b (k - 1)) where
      pub each_last : each_left levels b k w ≡ run f (walk_below visit c d levels a w >>= each visit c d (walk_below visit c d levels) (pointers_down d b (k - 1)))
      unfolding each pointers_down
      each_last = let one : k ≡ suc (k - 1) = omega arith in rw is (ap (λ (m : ℕ). each_left levels b m w) one)

      pub each_unread : (x : Refusal) → run f (next_below c levels w.left (record { 0 = a })) ≡ refused x → each_left levels b k w ≡ refused x
      each_unread x e = each_last ∙ then_refused f _ _ x (walk_next a w levels ∙ then_refused f _ _ x e)
