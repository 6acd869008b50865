-- Nodes that were read before: a scan takes them as they are.
use Rattle.std.specs.Prelude.{true, false, List, ◌≡◌, ℕ, zero, suc, ◌<◌}
use Rattle.blocks.specs.Reads.{given, run}
use Rattle.blocks.specs.declared.Container.{Container}
use Rattle.nodes.specs.Node.{is_leaf, key_count, read_node}
use Rattle.nodes.specs.declared.Description.{Description}
use Rattle.trees.specs.clauses.Walks.{pointer_of}
use Rattle.trees.specs.clauses.Visits.{Plan}

-- the node at a verifies and can be taken apart
abbrev pub NodeRead : (ℕ → List ℕ) → Container → ℕ → Type 0
NodeRead f c a = run f (read_node c (record { 0 = a })) ≡ given (f a)

module _ (f : ℕ → List ℕ) (c : Container) (d : Description) where
  -- so does every node below the one whose bytes are b, on no more levels than given, its own among them
  unfoldable pub ReadBelow : ℕ → List ℕ → Type 0
  ReadBelow zero b = ⊥
  ReadBelow (suc levels) b = is_leaf b ≡ false → (i a : ℕ) → i < key_count b → run f (pointer_of d b i) ≡ given a → NodeRead f c a × ReadBelow levels (f a)

  -- the same, on however many levels
  pub record TreeRead (b : List ℕ) : Type 0 where
    pub levels : ℕ
    pub below : ReadBelow levels b

-- what a scan of a tree that was walked asks of the node whose bytes are b, and of the child that entry i of it names; other nodes are read as the scan comes to them
abbrev pub ScanRead : {F : Type 0} → (ℕ → List ℕ) → Container → Plan F → Description → List ℕ → Type 0
ScanRead f c p d b = p.walked ≡ true → TreeRead f c d b

abbrev pub ChildRead : {F : Type 0} → (ℕ → List ℕ) → Container → Plan F → Description → List ℕ → ℕ → Type 0
ChildRead f c p d b i = p.walked ≡ true → (a : ℕ) → run f (pointer_of d b i) ≡ given a → NodeRead f c a
