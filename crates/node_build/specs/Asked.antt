-- A request as it is handed over, the entries' bytes in one slice and their lengths in another; and what is answered to it.
use Rattle.std.specs.Prelude.{Bool, ◌&&◌, List, [], ◌∷◌, ℕ, ◌+◌, ◌-◌, ◌%◌, ◌^◌, leb, eqb, length, take, drop}
use Rattle.std.specs.Prelude.{Option, Some, None, Result, Ok, Err}
use Rattle.fields.specs.Choice.{pick, choose}
use Rattle.blocks.specs.Refusals.{number_of}
use Rattle.blocks.specs.declared.Refusal as refusal
use Rattle.checkpoint.specs.Geometry.{size_allowed}
use Rattle.nodes.specs.Node.{Entry, description_length}
use Rattle.node_build.specs.declared.BuildError.{BuildError}
use Rattle.node_build.specs.declared.BuildError.TheVariants.{OutsideBytes, NoRoom}
use Rattle.node_build.specs.declared.NodeHeader.{NodeHeader}
use Rattle.node_build.specs.declared.Sizes.{Sizes}
use Rattle.node_build.specs.Build.{Request, fits, node}

-- what the caller lends beside the node: the tree's description, the entries' bytes, and their lengths
pub record Handed : Type 0 where
  pub header : NodeHeader
  pub sizes : Sizes
  pub info : List ℕ
  pub parts : List ℕ
  pub lengths : List ℕ

-- a value's length that says that there is none, a ghost; a key of this length is a key
abbrev pub ghost_length : ℕ
ghost_length = 2 ^ 64 - 1

-- the bytes that a value of a length takes
unfoldable pub taken : ℕ → ℕ
taken v = pick (eqb v ghost_length) 0 v

unfoldable pub value_in : ℕ → List ℕ → Option (List ℕ)
value_in v b = pick (eqb v ghost_length) None (Some (take v b))

-- key, value, key, value, ..
unfoldable pub entries_in : List ℕ → List ℕ → List Entry
entries_in b [] = []
entries_in b (k ∷ []) = []
entries_in b (k ∷ v ∷ ls) = (record { key = take k b; value = value_in v (drop k b) }) ∷ entries_in (drop (k + taken v) b) ls

-- the bytes that all entries take
unfoldable pub takes : List ℕ → ℕ
takes [] = 0
takes (k ∷ []) = 0
takes (k ∷ v ∷ ls) = k + taken v + takes ls

-- a whole description, lengths in pairs, and bytes for all entries
unfoldable pub well_formed : List ℕ → List ℕ → List ℕ → Bool
well_formed info parts lengths = leb description_length (length info) && (eqb (length lengths % 2) 0 && leb (takes lengths) (length parts))

abbrev pub request_of : Handed → Request
request_of h = record { header = h.header; sizes = h.sizes; info = h.info; entries = entries_in h.parts h.lengths }

-- an answer, and the lent node after it
pub record Made : Type 0 where
  pub answer : Result (Unit {0}) BuildError
  pub node : List ℕ

abbrev pub made : Result (Unit {0}) BuildError → List ℕ → Made
made a n = record { answer = a; node = n }

-- document 02: "26, the node's size isn't one that refusal 3 admits or the entries don't fit as `layout` works it out, and the lent
-- node is unchanged"; its length is the size
unfoldable pub build_from : List ℕ → Request → Made
build_from found q =
    choose (size_allowed (length found) && fits q (length found)) (λ _. made (Ok tt) (node q (length found)))
    (λ _. made (Err NoRoom) found)

-- "17. A field, entry .. is absent or outside its bytes", of what is handed over
unfoldable pub build_node : List ℕ → Handed → Made
build_node found h =
    choose (well_formed h.info h.parts h.lengths) (λ _. build_from found (request_of h)) (λ _. made (Err OutsideBytes) found)

-- the number of an answer: 0 where the node is built
abbrev pub built_number : Result (Unit {0}) BuildError → ℕ
built_number (Ok tt) = 0
built_number (Err OutsideBytes) = number_of refusal.TheVariants.OutsideBytes
built_number (Err NoRoom) = 26
