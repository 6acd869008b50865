-- Laws of a chain read in place: its blocks come round with the ring, and a walk along them gives what the lists of the definition give.
use Rattle.std.proofs.Common.{Option, Some, None, Continue, Break}
use mathlib.Core.Path.{◌≡◌, refl, sym, ap, ◌∙◌}
use mathlib.Core.Bool.{Bool, true, false, ◌&&◌, true≢false, and-false}
use mathlib.Core.List.{List, [], ◌∷◌, ◌++◌, append-nil, append_assoc}
use Prim.Native.Nat.{ℕ, zero, suc, ◌+◌, ◌-◌, ◌*◌, ◌%◌, ◌≤◌, ◌<◌, min, pred}
use native.Mathlib.Nat.{add-zero, add-suc, add-mod_right, min-eq_left, min-eq_right}
use native.Mathlib.Decide.{dec_le}
use native.Mathlib.Omega.{arith}
use lib.Dec.{ltb, eqb}
use borrow.Author.Tests.{lt-ltb, le-ltb, eq-eqb, ne_eqb}
use Rattle.fields.specs.Choice.{choose}
use Rattle.blocks.specs.Reads.{Reads, Outcome, given, refused, run}
use Rattle.blocks.specs.declared.ObjectId.{ObjectId}
use Rattle.checkpoint.specs.Superblock.{descriptor_length, descriptor_base, descriptor_index}
use Rattle.checkpoint.specs.Map.{map_entries_at, map_entry_length, mapping_at, mappings_from, mappings_of, belongs_to, ends_chain, chain_address, chain_from, chain, lookup}
use Rattle.checkpoint.specs.clauses.InPlace.{Turn, test_turn, look_turn, turn_then, turns, link_of, test_at, look_of, look_at, lookup_in, map_of, loads}
use Rattle.checkpoint.specs.declared.Geometry.{Geometry}
use Rattle.checkpoint.specs.declared.Mapping.{Mapping}

-- a walk's turns, one at a time
module _ {A : Type 0} (turn : ℕ → Turn A) (last : A) where
  pub turns_done : (n k : ℕ) → n ≤ k → turns turn last (n - k) k ≡ last
  unfolding turns
  turns_done n k h = rw e
    where
      e : n - k ≡ 0
      e = omega arith

  module _ (n k : ℕ) (h : k < n) where
    one_less : n - k ≡ suc (n - (k + 1))
    one_less = omega arith

    pub turns_stop : (a : A) → turn k ≡ Break a → turns turn last (n - k) k ≡ a
    unfolding turns
    turns_stop a t = rw (one_less, t)

    pub turns_onward : turn k ≡ Continue tt → turns turn last (n - k) k ≡ turns turn last (n - (k + 1)) (k + 1)
    unfolding turns
    turns_onward t = rw (one_less, t)

  -- one block more that ends nothing
  turns_more : (n k : ℕ) → turn (k + n) ≡ Continue tt → turns turn last (suc n) k ≡ turns turn last n k
  unfolding turns
  turns_more zero k t = let here : turn k ≡ Continue tt = rw add-zero at t in rw here refl
  turns_more (suc n) k t = ap (turn_then (turn k)) (λ i _. turns_more n (k + 1) (rw same at t) i)
    where
      same : k + suc n ≡ k + 1 + n
      same = omega arith

  turns_again : (ring k : ℕ) → 0 < ring → turn (k + ring) ≡ turn k → turns turn last (suc ring) k ≡ turns turn last ring k
  unfolding turns
  turns_again zero k h r = absurd (omega arith)
  turns_again (suc n) k h r = go (turn k) refl
    where
      go : (t : Turn A) → turn k ≡ t → turns turn last (suc (suc n)) k ≡ turns turn last (suc n) k
      go (Break a) q = rw q refl
      go (Continue u) q = turns_more (suc n) k (r ∙ q)

  -- turns that come round: after as many as the ring has nothing new is met
  module _ (ring : ℕ) (some : 0 < ring) (round : (k : ℕ) → turn (k + ring) ≡ turn k) where
    turns_round : (m k : ℕ) → turns turn last (ring + m) k ≡ turns turn last ring k
    unfolding turns
    turns_round zero k = rw add-zero refl
    turns_round (suc m) k = rw add-suc (ap (λ (x : A). turn_then (turn k) (λ _. x)) (turns_round m (k + 1)) ∙ turns_again ring k some (round k))

    pub turns_ring : (n : ℕ) → turns turn last (min ring n) 0 ≡ turns turn last n 0
    turns_ring n = go (dec_le ring n)
      where
        go : Dec (ring ≤ n) → turns turn last (min ring n) 0 ≡ turns turn last n 0
        go (yes h) = let same : ring + (n - ring) ≡ n = omega arith in rw (min-eq_left h) (sym (turns_round (n - ring) 0) ∙ rw same refl)
        go (no h) = let less : n ≤ ring = omega arith in rw (min-eq_right less) refl

-- a chain's addresses come round with the ring
module _ (g : Geometry) (sb : List ℕ) where
  pub link_round : (k : ℕ) → link_of g sb (k + g.ring) ≡ link_of g sb k
  unfolding link_of chain_address
  link_round k = rw same refl
    where
      same : (descriptor_index sb + (k + g.ring)) % g.ring ≡ (descriptor_index sb + k) % g.ring
      same = let e : descriptor_index sb + (k + g.ring) ≡ descriptor_index sb + k + g.ring = omega arith in rw (e, add-mod_right) refl

  -- where a block of it stands, from the base and the index that were read
  module _ (k base index : ℕ) (p : base ≡ descriptor_base sb) (q : index ≡ descriptor_index sb) where
    pub link_past : g.count ≤ base + (index + k) % g.ring → link_of g sb k ≡ None
    unfolding link_of chain_address
    link_past l = rw (← p, ← q) (simp (le-ltb _ _ l, and-false))

-- of two lists the first that has an id
abbrev first_of : Option Mapping → Option Mapping → Option Mapping
first_of (Some m) other = Some m
first_of None other = other

lookup_append : (id : ObjectId) (ms ns : List Mapping) → lookup id (ms ++ ns) ≡ first_of (lookup id ms) (lookup id ns)
unfolding lookup
lookup_append id [] ns = refl
lookup_append id (m ∷ ms) ns = go (eqb m.id.0 id.0) (lookup_append id ms ns) refl
  where
    go : (t : Bool) → lookup id (ms ++ ns) ≡ first_of (lookup id ms) (lookup id ns) → eqb m.id.0 id.0 ≡ t → lookup id ((m ∷ ms) ++ ns) ≡ first_of (lookup id (m ∷ ms)) (lookup id ns)
    go true rest e = rw e refl
    go false rest e = rw e rest

look_end : (m : Option Mapping) (rest : Unit {0} → Option Mapping) → turn_then (look_of m true) rest ≡ m
look_end (Some m) rest = refl
look_end None rest = refl

look_on : (m : Option Mapping) (rest : Unit {0} → Option Mapping) → turn_then (look_of m false) rest ≡ first_of m (rest tt)
look_on (Some m) rest = refl
look_on None rest = refl

run_choose : (f : ℕ → List ℕ) {A : Type 0} (t : Bool) (p q : Unit {0} → Reads A) → run f (choose t p q) ≡ choose t (λ _. run f (p tt)) (λ _. run f (q tt))
run_choose f true p q = refl
run_choose f false p q = refl

module _ (f : ℕ → List ℕ) (g : Geometry) (sb : List ℕ) where
  -- the chain from block k on, and the two walks along it
  data Walks (left k : ℕ) (found : List Mapping) : Type 0 where
    fails : run f (chain_from g sb left k found) ≡ given None → turns (test_turn f g sb) true left k ≡ false → Walks left k found
    holds : (ms : List Mapping) → run f (chain_from g sb left k found) ≡ given (Some (found ++ ms)) → turns (test_turn f g sb) true left k ≡ true → ((id : ObjectId) → turns (look_turn f g sb id) None left k ≡ lookup id ms) → Walks left k found

  abbrev inside : ℕ → Bool
  inside k = ltb 0 (chain_address g sb k) && ltb (chain_address g sb k) g.count

  -- one block of it, by its tests
  chain_step : (left k : ℕ) (found : List Mapping)
      → run f (chain_from g sb (suc left) k found)
      ≡ choose (inside k)
      (λ _. choose (belongs_to sb (f (chain_address g sb k)))
      (λ _. choose (ends_chain (f (chain_address g sb k)))
      (λ _. given (Some (found ++ mappings_of (f (chain_address g sb k)))))
      (λ _. run f (chain_from g sb left (k + 1) (found ++ mappings_of (f (chain_address g sb k))))))
      (λ _. given None))
      (λ _. given None)
  unfolding run chain_from
  chain_step left k found = simp (run_choose f)

  walks : (left k : ℕ) (found : List Mapping) → Walks left k found
  unfolding run chain_from turns link_of lookup
  walks zero k found = holds [] (rw append-nil refl) refl (λ id. refl)
  walks (suc left) k found = go (inside k) (belongs_to sb b) (ends_chain b) (walks left (k + 1) (found ++ mappings_of b)) refl refl refl
    where
      b : List ℕ
      b = f (chain_address g sb k)

      go : (i o e : Bool) → Walks left (k + 1) (found ++ mappings_of b) → inside k ≡ i → belongs_to sb b ≡ o → ends_chain b ≡ e → Walks (suc left) k found
      go false o e rest p q r = fails (chain_step left k found ∙ rw p refl) (rw p refl)
      go true false e rest p q r = fails (chain_step left k found ∙ rw p (rw q refl)) (rw p (rw q refl))
      go true true true rest p q r = holds (mappings_of b) (chain_step left k found ∙ rw p (rw q (rw r refl))) (rw p (rw q (rw r refl))) (λ id. rw p (rw r (look_end (lookup id (mappings_of b)) _)))
      go true true false (fails a t) p q r = fails (chain_step left k found ∙ rw p (rw q (rw r a))) (rw p (rw q (rw r t)))
      go true true false (holds ms a t l) p q r =
          holds (mappings_of b ++ ms) (chain_step left k found ∙ rw p (rw q (rw r (a ∙ rw append_assoc refl)))) (rw p (rw q (rw r t))) (λ id. rw p (rw r (look_on (lookup id (mappings_of b)) _ ∙ rw (l id) (sym (lookup_append id (mappings_of b) ms)))))

  -- "A chain has the superblock's descriptor length less 1 blocks": whether they load, with the map that they give
  chain_walks : Walks (pred (descriptor_length sb)) 0 []
  chain_walks = walks (pred (descriptor_length sb)) 0 []

  pub loads_walk : loads (run f (chain g sb)) ≡ turns (test_turn f g sb) true (pred (descriptor_length sb)) 0
  unfolding chain
  loads_walk = go chain_walks
    where
      go : Walks (pred (descriptor_length sb)) 0 [] → loads (run f (chain_from g sb (pred (descriptor_length sb)) 0 [])) ≡ turns (test_turn f g sb) true (pred (descriptor_length sb)) 0
      go (fails a t) = rw (a, t) refl
      go (holds ms a t l) = rw (a, t) refl

  pub chain_fails : loads (run f (chain g sb)) ≡ false → run f (chain g sb) ≡ given None
  unfolding chain
  chain_fails e = go chain_walks
    where
      go : Walks (pred (descriptor_length sb)) 0 [] → run f (chain_from g sb (pred (descriptor_length sb)) 0 []) ≡ given None
      go (fails a t) = a
      go (holds ms a t l) = absurd (true≢false (sym t ∙ sym loads_walk ∙ e))

  module _ (e : loads (run f (chain g sb)) ≡ true) where
    pub chain_loads : run f (chain g sb) ≡ given (Some (map_of (run f (chain g sb))))
    chain_loads = go (run f (chain g sb)) e
      where
        go : (o : Outcome (Option (List Mapping))) → loads o ≡ true → o ≡ given (Some (map_of o))
        go (given (Some ms)) t = refl
        go (given None) t = absurd (true≢false (sym t))
        go (refused r) t = absurd (true≢false (sym t))

    -- an id's entry, found along the chain, is the one of its map
    pub lookup_in_place : 0 < g.ring → (id : ObjectId) → lookup_in f g sb id ≡ lookup id (map_of (run f (chain g sb)))
    unfolding chain lookup_in
    lookup_in_place h id = rw (lt-ltb 0 g.ring h) (go chain_walks)
      where
        go : Walks (pred (descriptor_length sb)) 0 [] → turns (look_turn f g sb id) None (pred (descriptor_length sb)) 0 ≡ lookup id (map_of (run f (chain_from g sb (pred (descriptor_length sb)) 0 [])))
        go (fails a t) = absurd (true≢false (sym e ∙ loads_walk ∙ t))
        go (holds ms a t l) = rw a (l id)

  -- a ring's worth of blocks is enough for both
  pub loads_ring : 0 < g.ring → turns (test_turn f g sb) true (min g.ring (pred (descriptor_length sb))) 0 ≡ loads (run f (chain g sb))
  loads_ring some = turns_ring (test_turn f g sb) true g.ring some (λ k. ap (test_at f sb) (link_round g sb k)) _ ∙ sym loads_walk

  pub lookup_ring : (id : ObjectId) → turns (look_turn f g sb id) None (min g.ring (pred (descriptor_length sb))) 0 ≡ lookup_in f g sb id
  unfolding lookup_in turns
  lookup_ring id = go (dec_le 1 g.ring)
    where
      go : Dec (1 ≤ g.ring) → turns (look_turn f g sb id) None (min g.ring (pred (descriptor_length sb))) 0 ≡ lookup_in f g sb id
      go (yes some) = turns_ring (look_turn f g sb id) None g.ring some (λ k. ap (look_at f id) (link_round g sb k)) _ ∙ rw (lt-ltb 0 g.ring some) refl
      go (no none) = let empty : min g.ring (pred (descriptor_length sb)) ≡ 0 = omega arith in rw (empty, le-ltb 0 g.ring (omega arith)) refl

-- the entries of one block, from the i-th of n on
module _ (b : List ℕ) (id : ObjectId) (n i : ℕ) where
  abbrev pub left : Option Mapping
  left = lookup id (mappings_from b (n - i) (map_entries_at + map_entry_length * i))

  pub block_done : n ≤ i → left ≡ None
  unfolding lookup mappings_from
  block_done h = let e : n - i ≡ 0 = omega arith in rw e refl

  module _ (h : i < n) (found : ℕ) (is : found ≡ (mapping_at b (map_entries_at + map_entry_length * i)).id.0) where
    pub block_here : (m : Mapping) → m ≡ mapping_at b (map_entries_at + map_entry_length * i) → found ≡ id.0 → left ≡ Some m
    unfolding lookup mappings_from
    block_here m q e = let s : n - i ≡ suc (n - (i + 1)) = omega arith in rw (s, eq-eqb (mapping_at b (map_entries_at + map_entry_length * i)).id.0 id.0 (sym is ∙ e)) (ap Some (sym q))

    pub block_next : (found ≡ id.0 → ⊥) → left ≡ lookup id (mappings_from b (n - (i + 1)) (map_entries_at + map_entry_length * (i + 1)))
    unfolding lookup mappings_from
    block_next e =
        let s : n - i ≡ suc (n - (i + 1)) = omega arith in
        let next : map_entries_at + map_entry_length * (i + 1) ≡ map_entries_at + map_entry_length * i + map_entry_length = omega arith in
        rw (s, next, ne_eqb (mapping_at b (map_entries_at + map_entry_length * i)).id.0 id.0 (λ p. e (is ∙ p))) refl
