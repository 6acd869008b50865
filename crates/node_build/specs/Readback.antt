-- What is promised of a built node: reading it by document 01's rules gives back its entries.
use Rattle.std.specs.Prelude.{Bool, true, ◌||◌, List, [], ◌∷◌, ◌≡◌, ℕ, zero, suc, ◌+◌, ◌%◌, ◌^◌, ◌≤◌, ◌<◌, eqb, length}
use Rattle.std.specs.Prelude.{Some, Ok}
use Rattle.fields.specs.Choice.{pick}
use Rattle.fields.specs.Fields.{num}
use Rattle.fields.specs.Header.{root_node_kind, node_kind}
use Rattle.blocks.specs.Reads.{Reads, done, ◌>>=◌, run, given}
use Rattle.blocks.specs.declared.Address.{Address}
use Rattle.blocks.specs.declared.Container.{Container}
use Rattle.nodes.specs.Node.{Entry, entry, deepest_level, key_count, read_node, describe}
use Rattle.nodes.specs.declared.Description.{Description}
use Rattle.node_build.specs.declared.Sizes.{Sizes}
use Rattle.node_build.specs.declared.Sizes.TheVariants.{Fixed, Variable}
use Rattle.node_build.specs.Build.{Request, leaf_level}
use Rattle.node_build.specs.Asked.{Handed, request_of, made, build_node}

-- so many entries from the i-th on
unfoldable pub entries_from : Description → List ℕ → ℕ → ℕ → Reads (List Entry)
entries_from d b zero i = done []
entries_from d b (suc left) i = do
  e ← entry d b i
  es ← entries_from d b left (i + 1)
  done (e ∷ es)

-- "in fixed-size nodes, entries of exactly the stated sizes (8 for an index value)"; of a ghost only the key is asked
abbrev pub Sized : Sizes → Bool → Entry → Type 0
Sized (Fixed k v) leaf e = (length e.key ≡ k) × ((x : List ℕ) → e.value ≡ Some x → length x ≡ pick leaf v 8)
Sized Variable leaf e = Unit {0}

abbrev pub AllSized : Sizes → Bool → List Entry → Type 0
AllSized z leaf [] = Unit {0}
AllSized z leaf (e ∷ es) = Sized z leaf e × AllSized z leaf es

-- "for levels up to 32, kinds 2 and 3, without the hashed flag", which is never set
pub record Readable (q : Request) : Type 0 where
  pub level : q.header.level ≤ deepest_level
  pub kind : (eqb (q.header.obj_type % 2 ^ 16) root_node_kind || eqb (q.header.obj_type % 2 ^ 16) node_kind) ≡ true
  pub sized : AllSized q.sizes (leaf_level q.header) q.entries

-- "read with a description that states the same"
abbrev pub States : Description → Sizes → Type 0
States d (Fixed k v) = (d.key ≡ k) × (d.value ≡ v)
States d Variable = Unit {0}

-- all entries of the node at an address, as document 01 reads them
abbrev pub read_entries : Container → Description → Address → Reads (List Entry)
read_entries c d a = do
  b ← read_node c a
  entries_from d b (key_count b) 0

-- "Reading a built node must give back every entry in its order": on any image that holds it, wherever that is
abbrev pub ReadsBack : List ℕ → Handed → Type 0
ReadsBack found h =
    (n : List ℕ) → build_node found h ≡ made (Ok tt) n → Readable (request_of h)
    → (d : Description) → States d h.sizes
    → (c : Container) (a : Address) → 0 < a.0 → a.0 < c.count
    → (f : ℕ → List ℕ) → f a.0 ≡ n
    → run f (read_entries c d a) ≡ given (request_of h).entries

-- what a root says of its tree is what was handed over
abbrev pub described_by : List ℕ → Description
described_by info = record { flags = num 4 info 0; key = num 4 info 8; value = num 4 info 12 }

abbrev pub DescribesBack : List ℕ → Handed → Type 0
DescribesBack found h =
    (n : List ℕ) → build_node found h ≡ made (Ok tt) n → h.header.root ≡ true
    → (f : ℕ → List ℕ) → run f (describe n) ≡ given (described_by h.info)
