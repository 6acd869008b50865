-- Laws of nodes that were read before: a walk that came to its end has read every node of its tree, and a scan meets no other.
use mathlib.Core.Path.{◌≡◌, refl, sym, ap, ◌∙◌}
use mathlib.Core.Bool.{true, false}
use mathlib.Core.List.{List, [], ◌∷◌}
use Prim.Native.Nat.{ℕ, zero, suc, ◌+◌, ◌≤◌, ◌<◌, pred}
use native.Mathlib.Decide.{dec_le}
use native.Mathlib.Omega.{arith}
use Rattle.blocks.specs.Reads.{Reads, given, run, ◌>>=◌}
use Rattle.blocks.proofs.Laws.{then_given, need_held, both}
use Rattle.blocks.specs.declared.Address.{Address}
use Rattle.blocks.specs.declared.Container.{Container}
use Rattle.nodes.specs.Node.{is_leaf, key_count, entry}
use Rattle.nodes.specs.Scan.{look_at, pointer_past, one_below}
use Rattle.nodes.specs.Walk.{Walked, children_from, next_node, each, children_of, walk_below, most_levels, walk}
use Rattle.nodes.specs.declared.Description.{Description}
use Rattle.trees.specs.clauses.Visits.{Plan, AsRead, child_below}
use Rattle.trees.specs.clauses.Walks.{pointer_of}
use Rattle.trees.specs.clauses.Read.{NodeRead, ReadBelow, TreeRead, ScanRead, ChildRead}
use Rattle.trees.proofs.WalkLaws.{given_same, children_step, node_turn}

unfoldable All : (ℕ → Type 0) → List ℕ → Type 0
All P [] = Unit {0}
All P (a ∷ rest) = P a × All P rest

-- what holds of all pointers that were found holds of each entry's pointer
module _ (f : ℕ → List ℕ) (d : Description) (b : List ℕ) (P : ℕ → Type 0) where
  abbrev FromOn : ℕ → ℕ → Type 0
  FromOn i n = (j a : ℕ) → i ≤ j → j < n → run f (pointer_of d b j) ≡ given a → P a

  one_more : (i n a : ℕ) → run f (pointer_of d b i) ≡ given a → P a → FromOn (i + 1) n → FromOn i n
  one_more i n a e p after j x h k q = go (dec_le (i + 1) j)
    where
      go : Dec (i + 1 ≤ j) → P x
      go (yes l) = after j x l k q
      go (no l) =
          let here : j ≡ i = omega arith in
          let same : a ≡ x = given_same _ _ _ e (rw here at q) in rw (← same) p

  found_all : (left i n : ℕ) (found cs : List ℕ) → i + left ≡ n → run f (children_from d b left i found) ≡ given cs → All P cs → All P found × FromOn i n
  unfolding run children_from All
  found_all zero i n found cs l e all =
      let same : found ≡ cs = given_same (given found) _ _ refl e in
      (rw same all, λ j a h k q. absurd (omega arith))
  found_all (suc left) i n found cs l e all =
      let one = both f (pointer_of d b i) _ cs (sym (children_step f d b left i found) ∙ e) in
      let rest = found_all left (i + 1) n (one.first ∷ found) cs (omega arith) one.rest all in
      (rest.0.1, one_more i n one.first one.came rest.0.0 rest.1)

module _ {S : Type 0} (f : ℕ → List ℕ) (visit : S → Address → Reads S) (c : Container) (d : Description) where
  -- what each child's step says of the child, for all children once all their steps are made
  module _ (P : ℕ → Type 0) (down : ℕ → Walked S → Reads (Walked S)) (says : (a : ℕ) (w v : Walked S) → run f (down a w) ≡ given v → P a) where
    each_all : (cs : List ℕ) (w v : Walked S) → run f (each visit c d down cs w) ≡ given v → All P cs
    unfolding each All
    each_all [] w v e = tt
    each_all (a ∷ cs) w v e = let one = both f (down a w) _ v e in (says a w one.first one.came, each_all cs one.first v one.rest)

    children_all : (b : List ℕ) (w v : Walked S) → run f (children_from d b (key_count b) 0 [] >>= λ cs. each visit c d down cs w) ≡ given v → FromOn f d b P 0 (key_count b)
    children_all b w v e =
        let cs = both f (children_from d b (key_count b) 0 []) _ v e in
        (found_all f d b P (key_count b) 0 (key_count b) [] cs.first (omega arith) cs.came (each_all cs.first w v cs.rest)).1

  below_read : (levels a : ℕ) (w v : Walked S) → run f (walk_below visit c d levels a w) ≡ given v → NodeRead f c a × ReadBelow f c d levels (f a)
  unfolding run walk_below children_of ReadBelow
  below_read zero a w v e = let z : ◌≡◌ {A = ℕ} 0 1 = cc in absurd (omega arith)
  below_read (suc levels) a w v e =
      let node = both f (next_node c w.left (record { 0 = a })) _ v e in
      let turn = node_turn f c _ _ node.first node.came in
      let visited = both f (visit w.state (record { 0 = a })) _ v node.rest in
      let children : run f (children_of visit c d (walk_below visit c d levels) (f a) (record { left = pred w.left; state = visited.first })) ≡ given v = ap (λ (b : List ℕ). run f (children_of visit c d (walk_below visit c d levels) b (record { left = pred w.left; state = visited.first }))) (sym turn.2) ∙ visited.rest in
      (turn.1, λ index i x h q. children_all (λ y. NodeRead f c y × ReadBelow f c d levels (f y)) (walk_below visit c d levels) (below_read levels) (f a) (record { left = pred w.left; state = visited.first }) v (rw index at children) i x (omega arith) h q)

  -- a whole walk that came to its end
  pub walk_read : (root : Address) (s t : S) → run f (walk visit c d root s) ≡ given t → TreeRead f c d (f root.0)
  unfolding walk
  walk_read root s t e =
      let whole = both f (walk_below visit c d most_levels root.0 (record { left = c.count; state = s })) _ t e in
      record { levels = most_levels; below = (below_read most_levels root.0 _ whole.first whole.came).1 }

-- a child of a tree that was read
child_read : (f : ℕ → List ℕ) (c : Container) (d : Description) (b : List ℕ) → TreeRead f c d b → is_leaf b ≡ false → (i a : ℕ) → i < key_count b → run f (pointer_of d b i) ≡ given a → NodeRead f c a × TreeRead f c d (f a)
unfolding ReadBelow
child_read f c d b tree index i a h q = go tree.levels tree.below
  where
    go : (levels : ℕ) → ReadBelow f c d levels b → NodeRead f c a × TreeRead f c d (f a)
    go zero r = absurd r
    go (suc levels) r = ((r index i a h q).0, record { levels = levels; below = (r index i a h q).1 })

-- a pointer after which the next entry was looked at
past_pointer : (f : ℕ → List ℕ) (d : Description) (b : List ℕ) (left i a : ℕ) → run f (pointer_past d b left i) ≡ given a → run f (pointer_of d b i) ≡ given a
unfolding pointer_past
past_pointer f d b left i a e =
    let found = both f (entry d b i) _ a e in
    let looked = both f (look_at d b left (i + 1)) _ a found.rest in
    then_given f _ _ found.first found.came ∙ looked.rest

-- entry i of the n that the index node in block at has: the child that it names was read, and so was all below it
module _ {F : Type 0} (f : ℕ → List ℕ) (c : Container) (p : Plan F) (d : Description) (at : ℕ) (read : ScanRead f c p d (f at)) (b : List ℕ) (is : b ≡ f at) (index : is_leaf b ≡ false) (n i : ℕ) (count : n ≡ key_count b) (h : i < n) where
  entry_child : p.walked ≡ true → (a : ℕ) → run f (pointer_of d b i) ≡ given a → NodeRead f c a × TreeRead f c d (f a)
  entry_child w a q = child_read f c d b (rw is (read w)) index i a (omega arith) q

  pub entry_read : ChildRead f c p d b i
  entry_read w a q = (entry_child w a q).0

  pub child_scanned : AsRead p → (level left : ℕ) (m : List ℕ) → run f (child_below d (p.child f) level b left i) ≡ given m → ScanRead f c p d m
  unfolding run child_below one_below
  child_scanned as_read level left m e w =
      let to = both f (pointer_past d b left i) _ m e in
      let node = both f (p.child f to.first) _ m to.rest in
      let same : node.first ≡ m = given_same (given node.first) _ _ refl (need_held f _ _ _ m node.rest).1 in
      let block : node.first ≡ f to.first = as_read f to.first node.first w node.came in
      rw (← same, block) (entry_child w to.first (past_pointer f d b left i to.first to.came)).1

-- the child that its pointer names needs no reading
pub pointer_known : {F : Type 0} (f : ℕ → List ℕ) (c : Container) (p : Plan F) (d : Description) (b : List ℕ) (left i a : ℕ) → ChildRead f c p d b i → run f (pointer_past d b left i) ≡ given a → p.walked ≡ true → NodeRead f c a
pointer_known f c p d b left i a read e w = read w a (past_pointer f d b left i a e)
