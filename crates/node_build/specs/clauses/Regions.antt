-- What the writers of a node's regions leave, and what they are lent.
use Rattle.std.specs.Prelude.{Bool, true, List, ◌++◌, ◌≡◌, ℕ, ◌+◌, ◌-◌, ◌*◌, ◌/◌, ◌≤◌, length, replicate}
use Rattle.blocks.specs.clauses.Images.{Lent, bytes, LentMut, bytes_lent}
use Rattle.writers.specs.clauses.Wrote.{written, Wrote}
use Rattle.node_build.specs.declared.Plan.{Plan}
use Rattle.node_build.specs.declared.Measured.{Measured}
use Rattle.node_build.specs.declared.NodeHeader.{NodeHeader}
use Rattle.node_build.specs.declared.Sizes.{Sizes}
use Rattle.node_build.specs.declared.Asked.{Asked}
use Rattle.node_build.specs.Build.{keys, values, slot_width, slots_from, table, object_header, shape, areas, fits, unsealed, is_packed}
use Rattle.node_build.specs.Asked.{Handed, entries_in, takes, well_formed, request_of}
use Rattle.node_build.specs.clauses.Lengths.{Entries, Measures}
use Rattle.node_build.specs.clauses.Layouts.{PlanOf}

-- a node into which bytes were put from a place on, up to the place answered
abbrev pub Fills : LentMut → ℕ → List ℕ → ℕ → Type 0
Fills node at x r = Wrote x at (bytes_lent node) node.exit.now r

-- what is handed over
abbrev pub handed : NodeHeader → Sizes → List ℕ → List ℕ → List ℕ → Handed
handed h z info parts lengths = record { header = h; sizes = z; info = info; parts = parts; lengths = lengths }

abbrev pub handed_by : Asked → Handed
handed_by r = handed r.header r.sizes r.info.now r.parts.now r.lengths.now

-- slots and table are written by the lengths alone: whatever the bytes are, if there are as many as the lengths say
abbrev pub SlotsFill : LentMut → ℕ → Sizes → Bool → Lent → ℕ → Type 0
SlotsFill node at z packed lengths r =
    (parts : List ℕ) → takes (bytes lengths) ≤ length parts → Fills node at (slots_from z packed 0 0 (entries_in parts (bytes lengths))) r

-- where the slots of entries end
abbrev pub slots_end : Sizes → ℕ → List ℕ → ℕ
slots_end z at lengths = at + length lengths / 2 * slot_width z

abbrev pub TableFill : LentMut → ℕ → Sizes → Plan → Lent → ℕ → Type 0
TableFill node at z l lengths r =
    (parts : List ℕ) → takes (bytes lengths) ≤ length parts
    → Fills node at (table z l.packed (entries_in parts (bytes lengths)) l.reserved) r

-- slots for all entries
pub record Tabled (z : Sizes) (l : Plan) (lengths : List ℕ) : Type 0 where
  pub few : length lengths / 2 ≤ l.reserved
  pub table_is : l.table ≡ l.reserved * slot_width z

abbrev pub keys_of : Bool → List ℕ → List ℕ → List ℕ
keys_of packed parts lengths = keys packed (entries_in parts lengths)

abbrev pub values_of : Bool → List ℕ → List ℕ → List ℕ
values_of packed parts lengths = values packed (entries_in parts lengths)

-- keys from a place on and values before another, and room between
pub record PairsRoom (packed : Bool) (parts lengths : List ℕ) (at end size : ℕ) : Type 0 where
  pub apart : at + length (keys_of packed parts lengths) + length (values_of packed parts lengths) ≤ end
  pub inside : end ≤ size

pub record PairsFill (packed : Bool) (parts lengths : List ℕ) (at end : ℕ) (before after : List ℕ) (r : ℕ) : Type 0 where
  pub is : after ≡ written (written before at (keys_of packed parts lengths)) (end - length (values_of packed parts lengths)) (values_of packed parts lengths)
  pub same : length after ≡ length before
  pub next : r ≡ at + length (keys_of packed parts lengths)

-- what is between keys and values
abbrev pub free_of : Plan → ℕ
free_of l = l.room - l.table - l.keys - l.values

abbrev pub Holds : Plan → Type 0
Holds l = l.table + l.keys + l.values ≤ l.room

abbrev pub headers_of : NodeHeader → Sizes → ℕ → Plan → List ℕ
headers_of h z count l = object_header h ++ shape h z count ++ areas l.table l.keys (free_of l)

-- a layout that has room for these entries
pub record Laid (z : Sizes) (parts lengths : List ℕ) (l : Plan) : Type 0 where
  pub entries : Entries parts lengths
  pub tabled : Tabled z l lengths
  pub keys_are : l.keys ≡ length (keys_of l.packed parts lengths)
  pub values_are : l.values ≡ length (values_of l.packed parts lengths)
  pub holds : Holds l

-- table, keys, free space and values
abbrev pub space_of : Sizes → List ℕ → List ℕ → Plan → List ℕ
space_of z parts lengths l =
    table z l.packed (entries_in parts lengths) l.reserved
    ++ keys_of l.packed parts lengths
    ++ replicate (free_of l) 0
    ++ values_of l.packed parts lengths

-- a request that fits, and the layout that it has
pub record Ready (size : ℕ) (h : Handed) (l : Plan) : Type 0 where
  pub least : 96 ≤ size
  pub formed : well_formed h.info h.parts h.lengths ≡ true
  pub plan : PlanOf (request_of h) size l
  pub held : fits (request_of h) size ≡ true

-- a list of entries, and what their lengths come to
pub record Weighed (packed : Bool) (h : Handed) (m : Measured) : Type 0 where
  pub formed : well_formed h.info h.parts h.lengths ≡ true
  pub packed_is : packed ≡ is_packed h.info
  pub measures : Measures packed h.lengths m

-- every byte after the checksum is written
abbrev pub FillsAll : LentMut → Handed → ℕ → Type 0
FillsAll node h r = Fills node 8 (unsealed (request_of h) (length (bytes_lent node))) r × (r ≡ length (bytes_lent node))
