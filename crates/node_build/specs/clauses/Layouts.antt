-- How a node is laid out, in the code's numbers.
use Rattle.std.specs.Prelude.{Bool, ◌&&◌, ◌≡◌, ℕ, ◌+◌, ◌*◌, ◌^◌, ◌≤◌, ◌<◌, leb, length}
use Rattle.node_build.specs.declared.Plan.{Plan}
use Rattle.node_build.specs.declared.Measured.{Measured}
use Rattle.node_build.specs.declared.NodeHeader.{NodeHeader}
use Rattle.node_build.specs.declared.Sizes.{Sizes}
use Rattle.node_build.specs.Build.{Request, is_packed, leaf_level, space, slots, slot_width, key_bytes, all_values, room, reserved, table_length}

-- what a size that is admitted has, and numbers of entries that a slice of lengths can have
abbrev pub Admitted : ℕ → ℕ → Type 0
Admitted size count = (96 ≤ size) × (size ≤ 65536) × (count < 2 ^ 60)

-- a layout by the number of the entries and the bytes of keys and values
pub record LaidOut (size : ℕ) (h : NodeHeader) (z : Sizes) (packed : Bool) (count : ℕ) (m : Measured) (r : Plan) : Type 0 where
  pub packed_is : r.packed ≡ packed
  pub room_is : r.room ≡ space h.root size
  pub reserved_is : r.reserved ≡ slots z (leaf_level h) r.room count
  pub table_is : r.table ≡ r.reserved * slot_width z
  pub keys_are : r.keys ≡ m.keys
  pub values_are : r.values ≡ m.values

-- the same of a request
pub record PlanOf (q : Request) (size : ℕ) (r : Plan) : Type 0 where
  pub packed_is : r.packed ≡ is_packed q.info
  pub room_is : r.room ≡ room q size
  pub reserved_is : r.reserved ≡ reserved q size
  pub table_is : r.table ≡ table_length q size
  pub keys_are : r.keys ≡ length (key_bytes q)
  pub values_are : r.values ≡ length (all_values q)

-- whether so many entries have slots, and all have room
abbrev pub holds : ℕ → Plan → Bool
holds count l = leb count l.reserved && leb (l.table + l.keys + l.values) l.room
