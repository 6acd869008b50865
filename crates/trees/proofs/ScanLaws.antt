-- Laws of scans: their loops.
use mathlib.Core.Path.{ap, ◌≡◌, refl, sym, ◌∙◌}
use mathlib.Core.Bool.{Bool, true, false}
use mathlib.Core.List.{List}
use Prim.Native.Nat.{ℕ, zero, suc, ◌+◌, ◌-◌, ◌<◌, pred}
use native.Mathlib.Omega.{arith}
use borrow.Author.Tests.{ne_eqb}
use Rattle.blocks.specs.Reads.{Reads, done, refuse, read, given, refused, run, ◌>>=◌, need}
use Rattle.blocks.proofs.Laws.{then_given, then_refused}
use Rattle.blocks.specs.declared.Refusal.{Refusal}
use Rattle.blocks.proofs.Laws.{bind_assoc as assoc}
use Rattle.nodes.specs.Node.{Entry, is_leaf, level_of, key_count, entry}
use Rattle.nodes.specs.Scan.{leaf_from, pointer_past, one_below, index_from, scan_node, below}
use Rattle.nodes.specs.declared.Description.{Description}
use Rattle.block_map.specs.clauses.Maps.{Unlogged}
use Rattle.report.specs.declared.Cursor.{Cursor}
use Rattle.trees.specs.clauses.Visits.{Plan, child_below}
use Rattle.trees.specs.clauses.Answers.{leaf_of}
use Rattle.trees.proofs.WalkLaws.{pred_less}

-- sequences, whatever comes after

pub bind_assoc : {A B C : Type 0} (f : ℕ → List ℕ) (p : Reads A) (g : A → Reads B) (h : B → Reads C) → run f (p >>= g >>= h) ≡ run f (p >>= λ a. g a >>= h)
bind_assoc f p g h = ap (run f) (assoc p g h)

pub bind_cong : {A B : Type 0} (f : ℕ → List ℕ) (p : Reads A) (g h : A → Reads B) → ((a : A) → run f (g a) ≡ run f (h a)) → run f (p >>= g) ≡ run f (p >>= h)
unfolding run ◌>>=◌
bind_cong f (done a) g h e = e a
bind_cong f (refuse r) g h e = refl
bind_cong f (read n k) g h e = bind_cong f (k (f n)) g h e

module _ {S : Type 0} (f : ℕ → List ℕ) (visit : S → Entry → Reads S) (d : Description) (child : ℕ → Reads (List ℕ)) where
  -- a child, and what follows it
  below_step : (level : ℕ) (n : List ℕ) (s : S) (rest : S → Reads S)
      → run f (below visit d child level n s >>= rest) ≡ run f (one_below level n >>= λ m. scan_node visit d child (below visit d child (pred level)) m s >>= rest)
  unfolding run need ◌>>=◌ below one_below
  below_step zero n s rest = rw (ne_eqb (level_of n + 1) 0 (λ e. omega arith)) refl
  below_step (suc level) n s rest = bind_assoc f (one_below (suc level) n) _ rest

  index_step : (level left i : ℕ) (b : List ℕ) (s : S)
      → run f (index_from visit d child (below visit d child level) b (suc left) i s) ≡ run f (child_below d child level b left i >>= λ n. scan_node visit d child (below visit d child (pred level)) n s >>= index_from visit d child (below visit d child level) b left (i + 1))
  unfolding index_from child_below
  index_step level left i b s =
      bind_cong f (pointer_past d b left i) _ _ (λ a. bind_cong f (child a) _ _ (λ n. below_step level n s rest) ∙ sym (bind_assoc f (child a) _ next))
      ∙ sym (bind_assoc f (pointer_past d b left i) _ next)
    where
      rest : S → Reads S
      rest = index_from visit d child (below visit d child level) b left (i + 1)

      next : List ℕ → Reads S
      next n = scan_node visit d child (below visit d child (pred level)) n s >>= rest

  -- the children from the i-th on, of which left are left
  module _ (level : ℕ) (b : List ℕ) (i : ℕ) (s : S) where
    pub index_done : (left : ℕ) → left ≡ 0 → index_from visit d child (below visit d child level) b left i s ≡ done s
    unfolding index_from
    index_done left e = rw e refl

    pub index_refused : (left : ℕ) → 0 < left → (r : Refusal) → run f (child_below d child level b (left - 1) i) ≡ refused r → run f (index_from visit d child (below visit d child level) b left i s) ≡ refused r
    index_refused zero h r e = absurd (omega arith)
    index_refused (suc left) h r e = let less : suc left - 1 ≡ left = omega arith in index_step level left i b s ∙ then_refused f _ _ r (rw less at e)

    pub index_found : (left : ℕ) → 0 < left → (m : List ℕ) → run f (child_below d child level b (left - 1) i) ≡ given m
        → run f (index_from visit d child (below visit d child level) b left i s) ≡ run f (scan_node visit d child (below visit d child (level - 1)) m s >>= index_from visit d child (below visit d child level) b (left - 1) (i + 1))
    index_found zero h m e = absurd (omega arith)
    index_found (suc left) h m e = let less : suc left - 1 ≡ left = omega arith in rw (less, ← pred_less level) (index_step level left i b s ∙ then_given f _ _ m (rw less at e))

  -- the entries of a leaf from the i-th on, of which left are left
  module _ (b : List ℕ) (i : ℕ) (s : S) where
    pub leaf_done : (left : ℕ) → left ≡ 0 → leaf_from visit d child b left i s ≡ done s
    unfolding leaf_from
    leaf_done left e = rw e refl

    pub leaf_refused : (left : ℕ) → 0 < left → (r : Refusal) → run f (entry d b i) ≡ refused r → run f (leaf_from visit d child b left i s) ≡ refused r
    unfolding leaf_from
    leaf_refused zero h r e = absurd (omega arith)
    leaf_refused (suc left) h r e = then_refused f _ _ r e

    pub leaf_found : (left : ℕ) → 0 < left → (x : Entry) → run f (entry d b i) ≡ given x → run f (leaf_from visit d child b left i s) ≡ run f (visit s x >>= leaf_from visit d child b (left - 1) (i + 1))
    unfolding leaf_from
    leaf_found zero h x e = absurd (omega arith)
    leaf_found (suc left) h x e = let less : suc left - 1 ≡ left = omega arith in rw less (then_given f _ _ x e)

  -- which of the two a node is
  module _ (down : List ℕ → S → Reads S) (b : List ℕ) (s : S) where
    pub scan_leaf : is_leaf b ≡ true → run f (scan_node visit d child down b s) ≡ run f (leaf_from visit d child b (key_count b) 0 s)
    unfolding scan_node
    scan_leaf e = rw e refl

    pub scan_index : is_leaf b ≡ false → run f (scan_node visit d child down b s) ≡ run f (index_from visit d child down b (key_count b) 0 s)
    unfolding scan_node
    scan_index e = rw e refl

-- an entry of a leaf that logged nothing
pub leaf_on : {F : Type 0} (f : ℕ → List ℕ) (p : Plan F) (d : Description) (b : List ℕ) (at : Cursor) (count : ℕ) (e : Entry) (r : Bool) (before after : List ℕ) → 0 < at.left → run f (entry d b at.next) ≡ given e → Unlogged f count r before after (λ s. p.visit f s e) → r ≡ true
    → (figures : F) → run f (leaf_of p d f b at (record { map = before; figures = figures })) ≡ run f (leaf_of p d f b (record { next = at.next + 1; left = at.left - 1 }) (record { map = after; figures = figures }))
leaf_on f p d b at count e r before after some is h y figures = leaf_found f _ _ _ b at.next _ at.left some e is ∙ then_given f _ _ _ (h.made y figures)
