-- A node built to order: its bytes in the order in which they stand. Document 02: "Port `build` from btree_write.rs, with its
-- table slots, padding, ghost mark and seal." Names in backquotes are the Rust's.
use Rattle.std.specs.Prelude.{Bool, ◌&&◌, List, [], ◌∷◌, ◌++◌, ℕ, ◌+◌, ◌-◌, ◌*◌, ◌/◌, max, leb, eqb, length, take, replicate}
use Rattle.std.specs.Prelude.{Option, Some, None}
use Rattle.fields.specs.Choice.{pick}
use Rattle.fields.specs.Fields.{num, bit}
use Rattle.writers.specs.Bytes.{le_bytes}
use Rattle.fletcher.specs.Fletcher.{fletcher}
use Rattle.nodes.specs.Node.{Entry, description_length, ghost_offset}
use Rattle.node_build.specs.declared.Sizes.{Sizes}
use Rattle.node_build.specs.declared.Sizes.TheVariants.{Fixed, Variable}
use Rattle.node_build.specs.declared.NodeHeader.{NodeHeader}

-- what is asked for: info is the tree's description as on the disk
pub record Request : Type 0 where
  pub header : NodeHeader
  pub sizes : Sizes
  pub info : List ℕ
  pub entries : List Entry

-- the slots of the table come in eights, and so does padding
abbrev pub in_eights : ℕ → ℕ
in_eights n = (n + 7) / 8 * 8

-- no padding, by flag 0x40 of the description (`BTREE_KV_NONALIGNED`); in a node that isn't a root too
unfoldable pub is_packed : List ℕ → Bool
is_packed info = bit 6 (num 4 info 0)

unfoldable pub padded_length : Bool → ℕ → ℕ
padded_length packed n = pick packed n (in_eights n)

-- bytes with the zeros after them
unfoldable pub padded : Bool → List ℕ → List ℕ
padded packed x = x ++ replicate (padded_length packed (length x) - length x) 0

-- an entry without value takes no bytes
unfoldable pub value_bytes : Bool → Option (List ℕ) → List ℕ
value_bytes packed None = []
value_bytes packed (Some v) = padded packed v

-- keys in order
unfoldable pub keys : Bool → List Entry → List ℕ
keys packed [] = []
keys packed (e ∷ es) = padded packed e.key ++ keys packed es

-- values in order from the value end back
unfoldable pub values : Bool → List Entry → List ℕ
values packed [] = []
values packed (e ∷ es) = values packed es ++ value_bytes packed e.value

-- how far before the value end a value begins
unfoldable pub offset_of : Option (List ℕ) → ℕ → ℕ
offset_of None v = ghost_offset
offset_of (Some x) v = v

unfoldable pub length_of : Option (List ℕ) → ℕ
length_of None = 0
length_of (Some x) = length x

unfoldable pub slot_width : Sizes → ℕ
slot_width (Fixed k v) = 4
slot_width Variable = 8

-- a row of the table where sizes are fixed: two offsets; else offset and length, twice
unfoldable pub slot_bytes : Sizes → ℕ → ℕ → ℕ → ℕ → List ℕ
slot_bytes (Fixed k v) koff klen voff vlen = le_bytes 2 koff ++ le_bytes 2 voff
slot_bytes Variable koff klen voff vlen = le_bytes 2 koff ++ le_bytes 2 klen ++ le_bytes 2 voff ++ le_bytes 2 vlen

-- the slots of entries, of which the first key begins at koff and the value before it at voff
unfoldable pub slots_from : Sizes → Bool → ℕ → ℕ → List Entry → List ℕ
slots_from z packed koff voff [] = []
slots_from z packed koff voff (e ∷ es) =
    let next = voff + length (value_bytes packed e.value) in
    slot_bytes z koff (length e.key) (offset_of e.value next) (length_of e.value)
    ++ slots_from z packed (koff + length (padded packed e.key)) next es

-- a leaf by its level alone
unfoldable pub leaf_level : NodeHeader → Bool
leaf_level h = eqb h.level 0

abbrev pub header_length : ℕ
header_length = 56

-- `data_space`
unfoldable pub space : Bool → ℕ → ℕ
space root size = size - header_length - pick root description_length 0

-- `toc_slots`, in so much space and of so many entries: for as many of the stated sizes as could ever fit, "8 for an index value"; or
-- by the entries, and two increments at least
unfoldable pub slots : Sizes → Bool → ℕ → ℕ → ℕ
slots (Fixed k v) leaf room count = in_eights (room / (4 + k + pick leaf v 8))
slots Variable leaf room count = max (in_eights count) 16

module _ (q : Request) where
  unfoldable pub key_bytes : List ℕ
  key_bytes = keys (is_packed q.info) q.entries

  unfoldable pub all_values : List ℕ
  all_values = values (is_packed q.info) q.entries

  -- the size of the node from here on
  module _ (size : ℕ) where
    unfoldable pub room : ℕ
    room = space q.header.root size

    unfoldable pub reserved : ℕ
    reserved = slots q.sizes (leaf_level q.header) room (length q.entries)

    unfoldable pub table_length : ℕ
    table_length = reserved * slot_width q.sizes

    -- `layout`
    unfoldable pub fits : Bool
    fits = leb (length q.entries) reserved && leb (table_length + length key_bytes + length all_values) room

    -- what is left between keys and values
    unfoldable pub free_length : ℕ
    free_length = room - (table_length + length key_bytes + length all_values)

unfoldable pub fixed_flag : Sizes → ℕ
fixed_flag (Fixed k v) = 4
fixed_flag Variable = 0

-- "flags at 32 (1 root, 2 leaf, 4 fixed sizes, 8 hashed)": never hashed
unfoldable pub flags : NodeHeader → Sizes → ℕ
flags h z = pick h.root 1 0 + pick (leaf_level h) 2 0 + fixed_flag z

-- the object's header, from its id on
unfoldable pub object_header : NodeHeader → List ℕ
object_header h = le_bytes 8 h.oid ++ le_bytes 8 h.xid ++ le_bytes 4 h.obj_type ++ le_bytes 4 h.subtype

-- flags, level, key count
unfoldable pub shape : NodeHeader → Sizes → ℕ → List ℕ
shape h z count = le_bytes 2 (flags h z) ++ le_bytes 2 h.level ++ le_bytes 4 count

-- two empty free lists
unfoldable pub no_lists : List ℕ
no_lists = le_bytes 2 ghost_offset ++ le_bytes 2 0 ++ le_bytes 2 ghost_offset ++ le_bytes 2 0

-- table offset and length; free space, its begin and length; the free lists
unfoldable pub areas : ℕ → ℕ → ℕ → List ℕ
areas table used free = le_bytes 2 0 ++ le_bytes 2 table ++ le_bytes 2 used ++ le_bytes 2 free ++ no_lists

-- every slot that is reserved: those of the entries, and zeros
unfoldable pub table : Sizes → Bool → List Entry → ℕ → List ℕ
table z packed es reserved = slots_from z packed 0 0 es ++ replicate ((reserved - length es) * slot_width z) 0

-- a root ends with the tree's description, as it was handed over
unfoldable pub description : Bool → List ℕ → List ℕ
description root info = pick root (take description_length info) []

-- a node from its object id on
unfoldable pub unsealed : Request → ℕ → List ℕ
unsealed q size =
    object_header q.header
    ++ shape q.header q.sizes (length q.entries)
    ++ areas (table_length q size) (length (key_bytes q)) (free_length q size)
    ++ table q.sizes (is_packed q.info) q.entries (reserved q size)
    ++ key_bytes q
    ++ replicate (free_length q size) 0
    ++ all_values q
    ++ description q.header.root q.info

-- `seal`: an object's bytes after their checksum
unfoldable pub sealed : List ℕ → List ℕ
sealed b = le_bytes 8 (fletcher b 0 0) ++ b

unfoldable pub node : Request → ℕ → List ℕ
node q size = sealed (unsealed q size)
