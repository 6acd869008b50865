-- What the code finds out from the lengths alone, whatever the bytes are.
use Rattle.std.specs.Prelude.{Bool, true, false, List, Option, Some, None, ◌≡◌, ℕ, ◌%◌, ◌^◌, ◌≤◌, ◌<◌, eqb, length}
use Rattle.fields.specs.Choice.{pick}
use Rattle.nodes.specs.Node.{ghost_offset}
use Rattle.node_build.specs.declared.Measured.{Measured}
use Rattle.node_build.specs.Build.{keys, values}
use Rattle.node_build.specs.Asked.{ghost_length, entries_in, takes, well_formed}

-- what a slot says of a value that begins so far before the value end, by the value's length
unfoldable pub offset_for : ℕ → ℕ → ℕ
offset_for v next = pick (eqb v ghost_length) ghost_offset next

abbrev pub Pairs : List ℕ → Type 0
Pairs lengths = length lengths % 2 ≡ 0

-- no sum of them passes 64 bits
abbrev pub Counted : List ℕ → Type 0
Counted lengths = Pairs lengths × (takes lengths < 2 ^ 63)

-- a list of entries
abbrev pub Entries : List ℕ → List ℕ → Type 0
Entries parts lengths = Pairs lengths × (takes lengths ≤ length parts)

-- the bytes of all keys and of all values, with their padding
pub record Measures (packed : Bool) (lengths : List ℕ) (r : Measured) : Type 0 where
  pub keys_are : (parts : List ℕ) → takes lengths ≤ length parts → r.keys ≡ length (keys packed (entries_in parts lengths))
  pub values_are : (parts : List ℕ) → takes lengths ≤ length parts → r.values ≡ length (values packed (entries_in parts lengths))

-- of lengths beside so many bytes
abbrev pub Weighs : Bool → List ℕ → ℕ → Option Measured → Type 0
Weighs packed lengths room (Some m) = (takes lengths ≤ room) × Measures packed lengths m
Weighs packed lengths room None = room < takes lengths

-- of all that is handed over
abbrev pub WeighsAll : Bool → List ℕ → List ℕ → List ℕ → Option Measured → Type 0
WeighsAll packed info parts lengths (Some m) = (well_formed info parts lengths ≡ true) × Measures packed lengths m
WeighsAll packed info parts lengths None = well_formed info parts lengths ≡ false
