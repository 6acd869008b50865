-- Where each region of a built node stands, and what its header says.
use mathlib.Core.Bool.{Bool, true, false}
use mathlib.Core.Path.{◌≡◌, refl, sym, ap, ◌∙◌}
use mathlib.Core.List.{List, [], ◌∷◌, ◌++◌, append-nil}
use Prim.Native.Nat.{ℕ, ◌+◌, ◌-◌, ◌*◌, ◌%◌, ◌^◌, ◌≤◌, ◌<◌}
use native.Mathlib.Omega.{arith}
use lib.Dec.{leb}
use lib.ListN.{length, take, drop, replicate, length-append, length-drop}
use lib.Seq.{length-take-le, drop_at, drop-drop, drop-append-le, take-append-le, take-add, take-take}
use borrow.Author.Tests.{leb-true, eq-eqb}
use Rattle.fields.specs.Choice.{pick}
use Rattle.fields.specs.Fields.{num, bit, le}
use Rattle.fields.specs.Header.{stored_checksum, kind_of}
use Rattle.writers.specs.Bytes.{le_bytes}
use Rattle.writers.proofs.Laws.{length_bytes, length_zeros}
use Rattle.fletcher.specs.Fletcher.{seal, fletcher, checksum, verifies}
use Rattle.fletcher.proofs.Laws.{verifies_whole}
use Rattle.blocks.proofs.Laws.{and_left, and_right}
use Rattle.checkpoint.specs.Geometry.{size_allowed}
use Rattle.checkpoint.proofs.OpeningLaws.{Allowed, allowed_size}
use Rattle.nodes.specs.Node.{flags_of, is_root, is_leaf, is_fixed, is_hashed, level_of, key_count, table_at, keys_at, value_end}
use Rattle.nodes.proofs.Laws.{value_end_root, value_end_other}
use Rattle.node_build.specs.declared.NodeHeader.{NodeHeader}
use Rattle.node_build.specs.declared.Sizes.{Sizes}
use Rattle.node_build.specs.declared.Sizes.TheVariants.{Fixed, Variable}
use Rattle.node_build.specs.Build.{Request, is_packed, slot_width, slots_from, leaf_level, space, key_bytes, all_values, room, reserved, table_length, fits, free_length, fixed_flag, flags, object_header, shape, no_lists, areas, table, description, unsealed, sealed, node}
use Rattle.node_build.proofs.Laws.{slots_left, slots_inside}
use Rattle.node_build.proofs.RegionLaws.{space_whole, describes}
use Rattle.node_build.proofs.Stands.{Stands, stands_in, stands_first, stands_last, stands_left, stands_right, stands_low, stands_number, slots_length}

seal_small : (s t : ℕ) → seal s t < 2 ^ 64
unfolding seal
seal_small s t = omega arith

fletcher_small : (b : List ℕ) (s t : ℕ) → fletcher b s t < 2 ^ 64
unfolding fletcher
fletcher_small [] s t = seal_small s t
fletcher_small (a ∷ []) s t = seal_small s t
fletcher_small (a ∷ b ∷ []) s t = seal_small s t
fletcher_small (a ∷ b ∷ c ∷ []) s t = seal_small s t
fletcher_small (a ∷ b ∷ c ∷ d ∷ l) s t = fletcher_small l _ _

flags_small : (h : NodeHeader) (z : Sizes) → flags h z < 256 ^ 2
unfolding flags fixed_flag
flags_small h z = go h.root (leaf_level h) z
  where
    go : (r l : Bool) (z : Sizes) → pick r 1 0 + pick l 2 0 + fixed_flag z < 256 ^ 2
    go r l z = omega (arith, one r, two l, four z)
      where
        one : (r : Bool) → pick r 1 0 ≤ 1
        one true = omega arith
        one false = omega arith

        two : (r : Bool) → pick r 2 0 ≤ 2
        two true = omega arith
        two false = omega arith

        four : (z : Sizes) → fixed_flag z ≤ 4
        four (Fixed k v) = omega arith
        four Variable = omega arith

abbrev pub is_fixed_size : Sizes → Bool
is_fixed_size (Fixed k v) = true
is_fixed_size Variable = false

-- each flag by itself
module _ (h : NodeHeader) (z : Sizes) where
  flag_bits : (bit 0 (flags h z) ≡ h.root) × (bit 1 (flags h z) ≡ leaf_level h) × (bit 2 (flags h z) ≡ is_fixed_size z) × (bit 3 (flags h z) ≡ false)
  unfolding flags fixed_flag
  flag_bits = go h.root (leaf_level h) z
    where
      go : (r l : Bool) (z : Sizes) → (bit 0 (pick r 1 0 + pick l 2 0 + fixed_flag z) ≡ r) × (bit 1 (pick r 1 0 + pick l 2 0 + fixed_flag z) ≡ l) × (bit 2 (pick r 1 0 + pick l 2 0 + fixed_flag z) ≡ is_fixed_size z) × (bit 3 (pick r 1 0 + pick l 2 0 + fixed_flag z) ≡ false)
      go true true (Fixed k v) = (refl, refl, refl, refl)
      go true false (Fixed k v) = (refl, refl, refl, refl)
      go false true (Fixed k v) = (refl, refl, refl, refl)
      go false false (Fixed k v) = (refl, refl, refl, refl)
      go true true Variable = (refl, refl, refl, refl)
      go true false Variable = (refl, refl, refl, refl)
      go false true Variable = (refl, refl, refl, refl)
      go false false Variable = (refl, refl, refl, refl)

-- the lengths of the header's parts
object_length : (h : NodeHeader) → length (object_header h) ≡ 24
unfolding object_header le_bytes
object_length h = refl

shape_length : (h : NodeHeader) (z : Sizes) (n : ℕ) → length (shape h z n) ≡ 8
unfolding shape le_bytes
shape_length h z n = refl

areas_length : (t u f : ℕ) → length (areas t u f) ≡ 16
unfolding areas no_lists le_bytes
areas_length t u f = refl

-- where its fields stand
kind_stands : (h : NodeHeader) → Stands (le_bytes 4 h.obj_type) 16 (object_header h)
unfolding object_header
kind_stands h = stands_left _ _ _ _ (stands_last (le_bytes 8 h.oid ++ le_bytes 8 h.xid) (le_bytes 4 h.obj_type) 16 long)
  where
    long : length (le_bytes 8 h.oid ++ le_bytes 8 h.xid) ≡ 16
    long = length-append (le_bytes 8 h.oid) _ ∙ (omega (arith, length_bytes 8 h.oid, length_bytes 8 h.xid))

module _ (h : NodeHeader) (z : Sizes) (n : ℕ) where
  flags_stand : Stands (le_bytes 2 (flags h z)) 0 (shape h z n)
  unfolding shape
  flags_stand = stands_left _ _ _ _ (stands_first (le_bytes 2 (flags h z)) _)

  level_stands : Stands (le_bytes 2 h.level) 2 (shape h z n)
  unfolding shape
  level_stands = stands_left _ _ _ _ (stands_last (le_bytes 2 (flags h z)) _ 2 (length_bytes 2 (flags h z)))

  count_stands : Stands (le_bytes 4 n) 4 (shape h z n)
  unfolding shape
  count_stands = stands_last (le_bytes 2 (flags h z) ++ le_bytes 2 h.level) _ 4 (length-append (le_bytes 2 (flags h z)) _ ∙ omega (arith, length_bytes 2 (flags h z), length_bytes 2 h.level))

module _ (t u f : ℕ) where
  offset_stands : Stands (le_bytes 2 0) 0 (areas t u f)
  unfolding areas
  offset_stands = stands_left _ _ _ _ (stands_left _ _ _ _ (stands_left _ _ _ _ (stands_first (le_bytes 2 0) _)))

  table_stands : Stands (le_bytes 2 t) 2 (areas t u f)
  unfolding areas
  table_stands = stands_left _ _ _ _ (stands_left _ _ _ _ (stands_left _ _ _ _ (stands_last (le_bytes 2 0) _ 2 (length_bytes 2 0))))

-- a type's low half survives its field's width
kind_low : (t : ℕ) → le (le_bytes 4 t) % 2 ^ 16 ≡ t % 2 ^ 16
unfolding le le_bytes
kind_low t = omega arith

-- a node that was built
pub record BuiltNode (q : Request) (size : ℕ) : Type 0 where
  pub admitted : size_allowed size ≡ true
  pub held : fits q size ≡ true
  pub whole_info : 40 ≤ length q.info

module _ {q : Request} {size : ℕ} (built : BuiltNode q size) where
  pub bounds : Allowed size
  bounds = allowed_size size built.admitted

  few : length q.entries ≤ reserved q size
  unfolding fits
  few = leb-true _ _ (and_left _ _ built.held)

  pub fitting : table_length q size + length (key_bytes q) + length (all_values q) ≤ room q size
  unfolding fits
  fitting = leb-true _ _ (and_right (leb (length q.entries) (reserved q size)) _ built.held)

  pub whole : 56 + room q size + pick q.header.root 40 0 ≡ size
  unfolding room
  whole = space_whole (space q.header.root size) size q.header.root refl (omega (arith, bounds.least))

  pub most : room q size + 56 ≤ 65536
  most = omega (arith, whole, bounds.most)

  pub table_length_lem : length (table q.sizes (is_packed q.info) q.entries (reserved q size)) ≡ table_length q size
  unfolding table table_length
  table_length_lem =
      omega (
        arith,
        length-append (slots_from q.sizes (is_packed q.info) 0 0 q.entries) (replicate ((reserved q size - length q.entries) * slot_width q.sizes) 0),
        slots_length q.sizes (is_packed q.info) 0 0 q.entries,
        length_zeros ((reserved q size - length q.entries) * slot_width q.sizes),
        slots_left (length q.entries) (reserved q size) (slot_width q.sizes) few,
        slots_inside (length q.entries) (reserved q size) (slot_width q.sizes) few,
      )

  pub free_length_lem : free_length q size + (table_length q size + length (key_bytes q) + length (all_values q)) ≡ room q size
  unfolding free_length
  free_length_lem = omega (arith, fitting)

  abbrev pub front : List ℕ
  front = object_header q.header ++ shape q.header q.sizes (length q.entries) ++ areas (table_length q size) (length (key_bytes q)) (free_length q size)

  front_length : length front ≡ 48
  front_length =
      omega (
        arith,
        length-append (object_header q.header ++ shape q.header q.sizes (length q.entries)) (areas (table_length q size) (length (key_bytes q)) (free_length q size)),
        length-append (object_header q.header) (shape q.header q.sizes (length q.entries)),
        object_length q.header,
        shape_length q.header q.sizes (length q.entries),
        areas_length (table_length q size) (length (key_bytes q)) (free_length q size),
      )

  abbrev pub slotted : List ℕ
  slotted = table q.sizes (is_packed q.info) q.entries (reserved q size)

  -- the regions, of the bytes after the checksum
  pub table_stands_here : Stands slotted 48 (unsealed q size)
  unfolding unsealed
  table_stands_here = stands_left _ _ _ _ (stands_left _ _ _ _ (stands_left _ _ _ _ (stands_left _ _ _ _ (stands_last front slotted 48 front_length))))

  keyed_length : length (front ++ slotted) ≡ 48 + table_length q size
  keyed_length = omega (arith, length-append front slotted, front_length, table_length_lem)

  pub keys_at_lem : Stands (key_bytes q) (48 + table_length q size) (unsealed q size)
  unfolding unsealed
  keys_at_lem = stands_left _ _ _ _ (stands_left _ _ _ _ (stands_left _ _ _ _ (stands_last (front ++ slotted) (key_bytes q) (48 + table_length q size) keyed_length)))

  zeroed_length : length (front ++ slotted ++ key_bytes q ++ replicate (free_length q size) 0) ≡ 48 + table_length q size + length (key_bytes q) + free_length q size
  zeroed_length = omega (arith, length-append (front ++ slotted ++ key_bytes q) (replicate (free_length q size) 0), length-append (front ++ slotted) (key_bytes q), keyed_length, length_zeros (free_length q size))

  pub values_at_lem : Stands (all_values q) (48 + table_length q size + length (key_bytes q) + free_length q size) (unsealed q size)
  unfolding unsealed
  values_at_lem = stands_left _ _ _ _ (stands_last (front ++ slotted ++ key_bytes q ++ replicate (free_length q size) 0) (all_values q) _ zeroed_length)

  unsealed_length : length (unsealed q size) + 8 ≡ size
  unfolding unsealed
  unsealed_length =
      omega (
        arith,
        length-append (front ++ slotted ++ key_bytes q ++ replicate (free_length q size) 0 ++ all_values q) (description q.header.root q.info),
        length-append (front ++ slotted ++ key_bytes q ++ replicate (free_length q size) 0) (all_values q),
        zeroed_length,
        free_length_lem,
        whole,
        describes q.header.root q.info built.whole_info,
      )

  -- the whole node
  pub in_node : (x : List ℕ) (i at : ℕ) → Stands x i (unsealed q size) → at ≡ 8 + i → Stands x at (node q size)
  unfolding node sealed
  in_node x i at s e = stands_right (le_bytes 8 (fletcher (unsealed q size) 0 0)) x (unsealed q size) i at s (omega (arith, length_bytes 8 (fletcher (unsealed q size) 0 0)))

  pub node_length : length (node q size) ≡ size
  unfolding node sealed
  node_length = length-append (le_bytes 8 (fletcher (unsealed q size) 0 0)) (unsealed q size) ∙ omega (arith, length_bytes 8 (fletcher (unsealed q size) 0 0), unsealed_length)

  sum_at : Stands (le_bytes 8 (fletcher (unsealed q size) 0 0)) 0 (node q size)
  unfolding node sealed
  sum_at = stands_first (le_bytes 8 (fletcher (unsealed q size) 0 0)) (unsealed q size)

  sum_is : checksum (node q size) ≡ fletcher (unsealed q size) 0 0
  unfolding node sealed checksum
  sum_is = ap (λ (l : List ℕ). fletcher l 0 0) (drop_at (le_bytes 8 (fletcher (unsealed q size) 0 0)) (unsealed q size) 8 (length_bytes 8 (fletcher (unsealed q size) 0 0)))

  -- more entries than bytes can't be
  entries_small : length q.entries ≤ table_length q size
  unfolding table_length slot_width
  entries_small = omega (arith, slots_inside (length q.entries) (reserved q size) (slot_width q.sizes) few, wide q.sizes)
    where
      wide : (z : Sizes) → length q.entries ≤ length q.entries * slot_width z
      wide (Fixed k v) = omega arith
      wide Variable = omega arith

  -- a field of the header
  object_at : Stands (object_header q.header) 0 front
  object_at = stands_left _ _ _ _ (stands_first (object_header q.header) _)

  shape_at : Stands (shape q.header q.sizes (length q.entries)) 24 front
  shape_at = stands_left _ _ _ _ (stands_last (object_header q.header) _ 24 (object_length q.header))

  areas_at : Stands (areas (table_length q size) (length (key_bytes q)) (free_length q size)) 32 front
  areas_at = stands_last (object_header q.header ++ shape q.header q.sizes (length q.entries)) _ 32 (omega (arith, length-append (object_header q.header) (shape q.header q.sizes (length q.entries)), object_length q.header, shape_length q.header q.sizes (length q.entries)))

  front_at : Stands front 0 (unsealed q size)
  unfolding unsealed
  front_at = stands_left _ _ _ _ (stands_left _ _ _ _ (stands_left _ _ _ _ (stands_left _ _ _ _ (stands_first front slotted))))

  -- w bytes of a part of the header, where it stands
  bytes_at : (part : List ℕ) (w n i j at : ℕ) → Stands (le_bytes w n) i part → Stands part j front → at ≡ 8 + (0 + (j + i)) → Stands (le_bytes w n) at (node q size)
  bytes_at part w n i j at s t e = in_node _ (0 + (j + i)) at (stands_in _ _ _ (j + i) 0 (stands_in _ _ _ i j s t) front_at) e

  field_at : (part : List ℕ) (w n i j at : ℕ) → Stands (le_bytes w n) i part → Stands part j front → at ≡ 8 + (0 + (j + i)) → n < 256 ^ w → num w (node q size) at ≡ n
  field_at part w n i j at s t e h = stands_number w n at (node q size) (bytes_at part w n i j at s t e) h

  pub flags_are : flags_of (node q size) ≡ flags q.header q.sizes
  flags_are = field_at _ 2 _ 0 24 32 (flags_stand q.header q.sizes (length q.entries)) shape_at refl (flags_small q.header q.sizes)

  pub root_is : is_root (node q size) ≡ q.header.root
  root_is = ap (bit 0) flags_are ∙ (flag_bits q.header q.sizes).0

  pub leaf_is : is_leaf (node q size) ≡ leaf_level q.header
  leaf_is = ap (bit 1) flags_are ∙ (flag_bits q.header q.sizes).1

  pub fixed_is : is_fixed (node q size) ≡ is_fixed_size q.sizes
  fixed_is = ap (bit 2) flags_are ∙ (flag_bits q.header q.sizes).2

  pub hashed_is : is_hashed (node q size) ≡ false
  hashed_is = ap (bit 3) flags_are ∙ (flag_bits q.header q.sizes).3

  pub count_is : key_count (node q size) ≡ length q.entries
  count_is = field_at _ 4 _ 4 24 36 (count_stands q.header q.sizes (length q.entries)) shape_at refl small
    where
      small : length q.entries < 256 ^ 4
      small = omega (arith, few, entries_small, most, fitting)

  pub table_begins : table_at (node q size) ≡ 56
  table_begins = ap (λ (n : ℕ). 56 + n) (field_at _ 2 0 0 32 40 (offset_stands (table_length q size) (length (key_bytes q)) (free_length q size)) areas_at refl (omega arith))

  pub keys_begin : keys_at (node q size) ≡ 56 + table_length q size
  keys_begin = both (table_at (node q size)) (num 2 (node q size) 42) table_begins (field_at _ 2 (table_length q size) 2 32 42 (table_stands (table_length q size) (length (key_bytes q)) (free_length q size)) areas_at refl (omega (arith, fitting, most)))
    where
      both : (a b : ℕ) {m n : ℕ} → a ≡ m → b ≡ n → a + b ≡ m + n
      both a b p r = λ i. p i + r i

  pub value_end_is : value_end (node q size) ≡ 56 + room q size
  value_end_is = go q.header.root root_is whole
    where
      go : (r : Bool) → is_root (node q size) ≡ r → 56 + room q size + pick r 40 0 ≡ size → value_end (node q size) ≡ 56 + room q size
      go true e w = value_end_root (node q size) e ∙ omega (arith, node_length)
      go false e w = value_end_other (node q size) e ∙ omega (arith, node_length)

  pub level_is : q.header.level ≤ 32 → level_of (node q size) ≡ q.header.level
  level_is h = field_at _ 2 _ 2 24 34 (level_stands q.header q.sizes (length q.entries)) shape_at refl (omega arith)

  pub kind_is : kind_of (node q size) ≡ q.header.obj_type % 2 ^ 16
  kind_is = ap (λ (n : ℕ). n % 2 ^ 16) (stands_low 4 q.header.obj_type 24 (node q size) (bytes_at _ 4 _ 16 0 24 (kind_stands q.header) object_at refl)) ∙ kind_low q.header.obj_type

  -- a root's description
  abbrev before : List ℕ
  before = front ++ slotted ++ key_bytes q ++ replicate (free_length q size) 0 ++ all_values q

  described_at : q.header.root ≡ true → Stands (take 40 q.info) (size - 40) (node q size)
  unfolding unsealed description
  described_at root = in_node (take 40 q.info) (length before) (size - 40) here place
    where
      here : Stands (take 40 q.info) (length before) (before ++ pick q.header.root (take 40 q.info) [])
      here = record { before = before; after = []; is = ap (λ (x : List ℕ). before ++ x) (ap (λ (r : Bool). pick r (take 40 q.info) []) root ∙ sym (append-nil (take 40 q.info))); place = refl }

      ended : ◌≡◌ {A = ℕ} (pick q.header.root 40 0) 40
      ended = ap (λ (r : Bool). pick {A = ℕ} r 40 0) root

      place : size - 40 ≡ 8 + length before
      place =
          let long : length before ≡ 48 + room q size = omega (arith, length-append (front ++ slotted ++ key_bytes q ++ replicate (free_length q size) 0) (all_values q), zeroed_length, free_length_lem) in
          omega (arith, whole, ended)

  pub described_part : q.header.root ≡ true → (j : ℕ) → j + 4 ≤ 40 → num 4 (node q size) (size - 40 + j) ≡ num 4 q.info j
  unfolding num
  described_part root j h =
      let s = described_at root in
      ap (λ (l : List ℕ). le (take 4 l)) (sym (drop-drop j (size - 40) (node q size)))
      ∙ ap (λ (l : List ℕ). le (take 4 (drop j l))) (ap (λ (l : List ℕ). drop (size - 40) l) s.is ∙ drop_at s.before _ (size - 40) s.place)
      ∙ ap (λ (l : List ℕ). le (take 4 l)) (drop-append-le j (take 40 q.info) s.after (omega (arith, long)))
      ∙ ap le (take-append-le 4 (drop j (take 40 q.info)) s.after (rw length-drop (omega (arith, long))))
      ∙ ap le (cut j h)
    where
      long : length (take 40 q.info) ≡ 40
      long = length-take-le 40 q.info built.whole_info

      cut : (j : ℕ) → j + 4 ≤ 40 → take 4 (drop j (take 40 q.info)) ≡ take 4 (drop j q.info)
      cut j h =
          ap (λ (n : ℕ). take 4 (drop j (take n q.info))) all
          ∙ ap (λ (l : List ℕ). take 4 (drop j l)) (take-add j (40 - j) q.info)
          ∙ ap (take 4) (drop_at (take j q.info) _ j (length-take-le j q.info (omega (arith, built.whole_info))))
          ∙ take-take 4 (40 - j) (drop j q.info) (omega arith)
        where
          all : 40 ≡ j + (40 - j)
          all = omega arith

  -- its checksum
  pub verified : verifies (node q size) ≡ true
  verified = sym (verifies_whole (node q size) (omega (arith, node_length, bounds.least)) (omega (arith, node_length, bounds.pages))) ∙ eq-eqb _ _ stored
    where
      stored : stored_checksum (node q size) ≡ checksum (node q size)
      stored = stands_number 8 (fletcher (unsealed q size) 0 0) 0 (node q size) sum_at (fletcher_small (unsealed q size) 0 0) ∙ sym sum_is
