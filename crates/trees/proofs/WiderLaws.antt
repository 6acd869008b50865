-- A scan whose state is wider leaves what its visits leave: so what else is carried along changes nothing.
use mathlib.Core.Path.{◌≡◌, refl, ap, sym, ◌∙◌}
use mathlib.Core.Bool.{Bool, true, false}
use mathlib.Core.List.{List}
use Prim.Native.Nat.{ℕ, zero, suc, ◌+◌}
use Rattle.fields.specs.Choice.{choose}
use Rattle.blocks.specs.Reads.{Reads, done, refuse, read, Outcome, given, refused, run, ◌>>=◌}
use Rattle.blocks.specs.declared.Refusal.{Refusal}
use Rattle.blocks.proofs.Laws.{and_then, run_bind}
use Rattle.nodes.specs.Node.{Entry, is_leaf, level_of, key_count, entry}
use Rattle.nodes.specs.Scan.{leaf_from, pointer_past, one_below, index_from, scan_node, below, scan}
use Rattle.nodes.specs.declared.Description.{Description}

abbrev pub raised : {S T : Type 0} → (S → T) → Outcome S → Outcome T
raised up (given s) = given (up s)
raised up (refused r) = refused r

module _ {S T : Type 0} (f : ℕ → List ℕ) (up : S → T) where
  Wider : (S → Reads S) → (T → Reads T) → Type 0
  Wider p q = (s : S) → run f (q (up s)) ≡ raised up (run f (p s))

  -- two steps that are wider, one after the other
  wider_then : (p : S → Reads S) (q : T → Reads T) (g : S → Reads S) (h : T → Reads T) → Wider p q → Wider g h → (s : S) → run f (q (up s) >>= h) ≡ raised up (run f (p s >>= g))
  unfolding Wider
  wider_then p q g h a b s = run_bind f (q (up s)) h ∙ rw (a s, run_bind f (p s) g) (go (run f (p s)))
    where
      go : (o : Outcome S) → and_then (raised up o) (λ t. run f (h t)) ≡ raised up (and_then o (λ t. run f (g t)))
      go (given t) = b t
      go (refused r) = refl

  -- the same steps before both
  pub wider_after : {A : Type 0} (p : Reads A) (g : A → Reads S) (h : A → Reads T) → ((a : A) → run f (h a) ≡ raised up (run f (g a))) → run f (p >>= h) ≡ raised up (run f (p >>= g))
  unfolding run ◌>>=◌
  wider_after (done a) g h e = e a
  wider_after (refuse r) g h e = refl
  wider_after (read n k) g h e = wider_after (k (f n)) g h e

  module _ (visit : S → Entry → Reads S) (visits : T → Entry → Reads T) (wide : (e : Entry) (s : S) → run f (visits (up s) e) ≡ raised up (run f (visit s e))) (d : Description) (child : ℕ → Reads (List ℕ)) where
    leaf_wider : (b : List ℕ) (left i : ℕ) (s : S) → run f (leaf_from visits d child b left i (up s)) ≡ raised up (run f (leaf_from visit d child b left i s))
    unfolding run leaf_from Wider
    leaf_wider b zero i s = refl
    leaf_wider b (suc left) i s = wider_after (entry d b i) _ _ (λ e. wider_then (λ s. visit s e) (λ t. visits t e) _ _ (wide e) (leaf_wider b left (i + 1)) s)

    module _ (down : List ℕ → S → Reads S) (downs : List ℕ → T → Reads T) (same : (n : List ℕ) (s : S) → run f (downs n (up s)) ≡ raised up (run f (down n s))) where
      index_wider : (b : List ℕ) (left i : ℕ) (s : S) → run f (index_from visits d child downs b left i (up s)) ≡ raised up (run f (index_from visit d child down b left i s))
      unfolding run index_from Wider
      index_wider b zero i s = refl
      index_wider b (suc left) i s =
          wider_after (pointer_past d b left i) _ _ λ a. wider_after (child a) _ _ λ n. wider_then (down n) (downs n) _ _ (same n) (index_wider b left (i + 1)) s

      node_wider : (b : List ℕ) (s : S) → run f (scan_node visits d child downs b (up s)) ≡ raised up (run f (scan_node visit d child down b s))
      unfolding scan_node
      node_wider b s = go (is_leaf b)
        where
          go : (t : Bool)
              → run f (choose t (λ _. leaf_from visits d child b (key_count b) 0 (up s)) (λ _. index_from visits d child downs b (key_count b) 0 (up s)))
              ≡ raised up (run f (choose t (λ _. leaf_from visit d child b (key_count b) 0 s) (λ _. index_from visit d child down b (key_count b) 0 s)))
          go true = leaf_wider b (key_count b) 0 s
          go false = index_wider b (key_count b) 0 s

    below_wider : (level : ℕ) (b : List ℕ) (s : S) → run f (below visits d child level b (up s)) ≡ raised up (run f (below visit d child level b s))
    unfolding run below
    below_wider zero b s = refl
    below_wider (suc level) b s = wider_after (one_below (suc level) b) _ _ (λ n. node_wider _ _ (below_wider level) n s)

    pub scan_wider : (b : List ℕ) (s : S) → run f (scan visits d child b (up s)) ≡ raised up (run f (scan visit d child b s))
    unfolding scan
    scan_wider b s = node_wider _ _ (below_wider (level_of b)) b s
