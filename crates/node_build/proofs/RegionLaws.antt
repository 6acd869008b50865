-- Laws of the layout and of each region, by the way that a test goes.
use mathlib.Core.Path.{◌≡◌, refl, sym, ap, ◌∙◌}
use mathlib.Core.Bool.{Bool, true, false, ◌&&◌}
use mathlib.Core.List.{List, [], ◌∷◌, ◌++◌, append_assoc, append-nil}
use Prim.Native.Nat.{ℕ, ◌+◌, ◌-◌, ◌*◌, ◌/◌, ◌%◌, ◌≤◌, ◌<◌, max}
use native.Mathlib.Omega.{arith}
use lib.Dec.{leb, eqb}
use lib.ListN.{length, take, drop, replicate, length-append}
use lib.Seq.{length-take-le}
use borrow.Author.Tests.{eq-eqb, ne_eqb, le-leb, lt-leb, leb-true, eqb-true}
use Rattle.fields.specs.Choice.{pick}
use Rattle.fields.specs.Fields.{num, bit}
use Rattle.writers.specs.Bytes.{le_bytes}
use Rattle.writers.specs.clauses.Wrote.{Wrote, written}
use Rattle.writers.proofs.Laws.{written_none, written_end, written_twice, written_apart, written_padded, length_written, wrote_then, length_bytes, length_zeros}
use Rattle.fletcher.specs.Fletcher.{checksum}
use Rattle.fields.proofs.Laws.{leb_less}
use Rattle.nodes.proofs.Laws.{and_first, and_both}
use Rattle.blocks.proofs.Laws.{and_left, and_right}
use Rattle.nodes.specs.Node.{ghost_offset}
use Rattle.node_build.specs.declared.Sizes.{Sizes}
use Rattle.node_build.specs.declared.Sizes.TheVariants.{Fixed, Variable}
use Rattle.node_build.specs.declared.NodeHeader.{NodeHeader}
use Rattle.node_build.specs.declared.Measured.{Measured}
use Rattle.std.specs.Prelude.{Option, Some, None, Ok, Err}
use Rattle.std.specs.Option.{ok_or}
use Rattle.node_build.specs.declared.Plan.{Plan}
use Rattle.node_build.specs.Build.{Request, keys, values, table, key_bytes, all_values, room, reserved, table_length, free_length, fits, unsealed, node, in_eights, is_packed, padded_length, padded, slot_width, slot_bytes, leaf_level, space, slots, fixed_flag, flags, object_header, shape, no_lists, areas, description, sealed}
use Rattle.node_build.specs.Asked.{Handed, ghost_length, taken, entries_in, takes, well_formed, request_of, made, build_from, build_node}
use Rattle.node_build.specs.clauses.Lengths.{offset_for, Measures, Weighs, WeighsAll}
use Rattle.node_build.specs.clauses.Layouts.{LaidOut, PlanOf, holds}
use Rattle.node_build.specs.clauses.Regions.{PairsRoom, PairsFill, keys_of, values_of, free_of, headers_of, Laid, space_of, Ready, Weighed}
use Rattle.node_build.specs.declared.BuildError.{BuildError}
use Rattle.node_build.specs.declared.BuildError.TheVariants.{OutsideBytes, NoRoom}
use Rattle.checkpoint.specs.Geometry.{size_allowed}
use Rattle.node_build.proofs.Laws.{entries_count}

-- what is left after two pieces holds a third
pub room_left : (t k v n : ℕ) → t ≤ n → k ≤ n - t → leb v (n - t - k) ≡ leb (t + k + v) n
room_left t k v n h l = ap (leb v) e ∙ leb_less (t + k) v n (omega arith)
  where
    e : n - t - k ≡ n - (t + k)
    e = omega arith

pub packed_is : (info : List ℕ) (n : ℕ) (r : Bool) → n ≡ num 4 info 0 → r ≡ bit 6 n → r ≡ is_packed info
unfolding is_packed
packed_is info n r e q = rw e at q

module _ (packed : Bool) (n : ℕ) where
  pub padded_packed : packed ≡ true → n ≡ padded_length packed n
  unfolding padded_length
  padded_packed e = rw e refl

  pub padded_eights : packed ≡ false → (r : ℕ) → r ≡ in_eights n → r ≡ padded_length packed n
  unfolding padded_length
  padded_eights e r q = rw e q

module _ (root : Bool) (size : ℕ) where
  pub space_root : root ≡ true → size - 56 - 40 ≡ space root size
  unfolding space
  space_root e = rw e refl

  pub space_other : root ≡ false → size - 56 ≡ space root size
  unfolding space
  space_other e = rw e (omega arith)

module _ (z : Sizes) where
  module _ (k v : ℕ) (e : z ≡ Fixed k v) where
    pub slots_fixed : (leaf : Bool) (room count r : ℕ) → r ≡ in_eights (room / (4 + k + pick leaf v 8)) → r ≡ slots z leaf room count
    unfolding slots
    slots_fixed leaf room count r q = rw e q

    pub width_fixed : slot_width z ≡ 4
    unfolding slot_width
    width_fixed = ap slot_width e

    pub flag_fixed : fixed_flag z ≡ 4
    unfolding fixed_flag
    flag_fixed = ap fixed_flag e

    pub slot_fixed : (koff klen voff vlen : ℕ) → le_bytes 2 koff ++ le_bytes 2 voff ≡ slot_bytes z koff klen voff vlen
    unfolding slot_bytes
    slot_fixed koff klen voff vlen = rw e refl

  module _ (e : z ≡ Variable) where
    pub slots_variable : (leaf : Bool) (room count r : ℕ) → r ≡ max (in_eights count) 16 → r ≡ slots z leaf room count
    unfolding slots
    slots_variable leaf room count r q = rw e q

    pub width_variable : slot_width z ≡ 8
    unfolding slot_width
    width_variable = ap slot_width e

    pub flag_variable : fixed_flag z ≡ 0
    unfolding fixed_flag
    flag_variable = ap fixed_flag e

    pub slot_variable : (koff klen voff vlen : ℕ) → le_bytes 2 koff ++ le_bytes 2 klen ++ le_bytes 2 voff ++ le_bytes 2 vlen ≡ slot_bytes z koff klen voff vlen
    unfolding slot_bytes
    slot_variable koff klen voff vlen = rw e refl

-- a length that means no value, or a length
module _ (v : ℕ) where
  pub taken_none : v ≡ ghost_length → 0 ≡ taken v
  unfolding taken
  taken_none e = rw (eq-eqb v ghost_length e) refl

  pub taken_some : (v ≡ ghost_length → ⊥) → v ≡ taken v
  unfolding taken
  taken_some e = rw (ne_eqb v ghost_length e) refl

  pub offset_none : v ≡ ghost_length → (n : ℕ) → ghost_offset ≡ offset_for v n
  unfolding offset_for
  offset_none e n = rw (eq-eqb v ghost_length e) refl

  pub offset_some : (v ≡ ghost_length → ⊥) → (n : ℕ) → n ≡ offset_for v n
  unfolding offset_for
  offset_some e n = rw (ne_eqb v ghost_length e) refl

pub flags_are : (h : NodeHeader) (z : Sizes) (leaf : Bool) (a b c : ℕ) → leaf ≡ leaf_level h → a ≡ pick h.root 1 0 → b ≡ pick leaf 2 0 → c ≡ fixed_flag z → a + b + c ≡ flags h z
unfolding flags
flags_are h z leaf a b c l p q r = rw (p, q, r, l) refl

pub leaf_is : (h : NodeHeader) → eqb h.level 0 ≡ leaf_level h
unfolding leaf_level
leaf_is h = refl

-- a region is what was written there
pub wrote_as : {x y a b : List ℕ} {at r : ℕ} → x ≡ y → Wrote x at a b r → Wrote y at a b r
wrote_as e w = rw e at w

pub object_is : (h : NodeHeader) → le_bytes 8 h.oid ++ le_bytes 8 h.xid ++ le_bytes 4 h.obj_type ++ le_bytes 4 h.subtype ≡ object_header h
unfolding object_header
object_is h = refl

pub shape_is : (h : NodeHeader) (z : Sizes) (count f : ℕ) → f ≡ flags h z → le_bytes 2 f ++ le_bytes 2 h.level ++ le_bytes 4 count ≡ shape h z count
unfolding shape
shape_is h z count f e = rw e refl

pub lists_are : le_bytes 8 281470681808895 ≡ no_lists
unfolding le_bytes no_lists
lists_are = refl

pub areas_are : (table used free : ℕ) → le_bytes 2 0 ++ le_bytes 2 table ++ le_bytes 2 used ++ le_bytes 2 free ++ no_lists ≡ areas table used free
unfolding areas
areas_are table used free = refl

-- a piece over the cleared last word of its padding
module _ (x : List ℕ) (at end : ℕ) (some : 0 < length x) (e : end ≡ at + in_eights (length x)) where
  pub padded_put : {l l₁ l₂ : List ℕ} {r s : ℕ} → Wrote (le_bytes 8 0) (end - 8) l l₁ r → Wrote x at l₁ l₂ s → Wrote (padded false x) at l l₂ end
  unfolding padded padded_length
  padded_put {l} {l₁} {l₂} z w =
      record {
        room = omega (arith, long, z.room, length_bytes 8 0);
        is = w.is ∙ ap (λ (t : List ℕ). written t at x) z.is ∙ written_padded l x at end (omega arith) (omega arith) (omega arith) (omega (arith, z.room, length_bytes 8 0)) ∙ ap (λ (n : ℕ). written l at (x ++ replicate n 0)) same;
        next = omega (arith, long);
      }
    where
      same : end - (at + length x) ≡ in_eights (length x) - length x
      same = omega arith

      long : length (x ++ replicate (in_eights (length x) - length x) 0) ≡ length x + (in_eights (length x) - length x)
      long = length-append x _ ∙ ap (λ (n : ℕ). length x + n) (length_zeros _)

-- a piece that needs none
pub padded_whole : (packed : Bool) (x : List ℕ) → padded_length packed (length x) ≡ length x → x ≡ padded packed x
unfolding padded
padded_whole packed x e = sym (append-nil x) ∙ ap (λ (n : ℕ). x ++ replicate n 0) none
  where
    none : 0 ≡ padded_length packed (length x) - length x
    none = omega arith

pub pair_whole : (x : List ℕ) → length x ≡ 16 → x ≡ padded false x
unfolding padded_length
pair_whole x e = padded_whole false x (omega arith)

pub packed_room : (packed : Bool) (n : ℕ) → packed ≡ true → padded_length packed n ≡ n
unfolding padded_length
packed_room packed n e = rw e refl

pub packed_whole : (packed : Bool) (x : List ℕ) → packed ≡ true → x ≡ padded packed x
packed_whole packed x e = padded_whole packed x (packed_room packed (length x) e)

pub eights_room : (n : ℕ) → padded_length false n ≡ in_eights n
unfolding padded_length
eights_room n = refl

-- no bytes need no padding
pub padded_nothing : (x : List ℕ) → length x ≡ 0 → [] ≡ padded false x
unfolding padded padded_length
padded_nothing [] e = refl
padded_nothing (b ∷ x) e = absurd (omega arith)

module _ (root : Bool) (info : List ℕ) where
  pub described_root : root ≡ true → take 40 (drop 0 info) ≡ description root info
  unfolding description
  described_root e = rw e refl

  pub described_other : root ≡ false → [] ≡ description root info
  unfolding description
  described_other e = rw e refl

-- nothing was written
pub wrote_none : (l : List ℕ) (at : ℕ) → at ≤ length l → Wrote [] at l l at
wrote_none l at h = record { room = omega arith; is = sym (written_none l at); next = omega arith }

pub pieces_are : (room k v d r m : ℕ) (leaf : Bool) → d ≡ pick leaf v 8 → m ≡ room / (4 + k + d) → r ≡ in_eights m → r ≡ in_eights (room / (4 + k + pick leaf v 8))
pieces_are room k v d r m leaf p q s = s ∙ ap in_eights (q ∙ ap (λ (x : ℕ). room / (4 + k + x)) p)

-- a whole description fills its place
pub description_length_lem : (root : Bool) (info : List ℕ) → root ≡ true → (b : List ℕ) → b ≡ take 40 (drop 0 info) → 40 ≤ length info → length b ≡ pick root 40 0
description_length_lem root info e b q h = rw e (ap length q ∙ length-take-le 40 info h)

pub sealed_is : (l after : List ℕ) (s r : ℕ) → Wrote (le_bytes 8 s) 0 l after r → s ≡ checksum l → after ≡ sealed (drop 8 l)
unfolding written sealed checksum
sealed_is l after s r w e = w.is ∙ ap (λ (n : ℕ). le_bytes 8 s ++ drop n l) long ∙ ap (λ (x : ℕ). le_bytes 8 x ++ drop 8 l) e
  where
    long : 0 + length (le_bytes 8 s) ≡ 8
    long = omega (arith, length_bytes 8 s)

-- what makes a request well formed, by the way that each test goes
module _ (info parts ls : List ℕ) where
  pub formed_short : length info < 40 → false ≡ well_formed info parts ls
  unfolding well_formed
  formed_short h = and_first _ _ (lt-leb 40 (length info) h)

  module _ (h : 40 ≤ length info) where
    pub formed_odd : (length ls % 2 ≡ 0 → ⊥) → false ≡ well_formed info parts ls
    unfolding well_formed
    formed_odd o = and_both _ _ (le-leb 40 (length info) h) false (and_first _ _ (ne_eqb (length ls % 2) 0 o))

    pub formed_bytes : length ls % 2 ≡ 0 → (r : Bool) → r ≡ leb (takes ls) (length parts) → r ≡ well_formed info parts ls
    unfolding well_formed
    formed_bytes e r q = and_both _ _ (le-leb 40 (length info) h) r (and_both _ _ (eq-eqb (length ls % 2) 0 e) r q)

  pub weighs_all : (packed : Bool) (r : Option Measured) → 40 ≤ length info → length ls % 2 ≡ 0 → Weighs packed ls (length parts) r → WeighsAll packed info parts ls r
  weighs_all packed (Some m) h e w = (sym (formed_bytes h e true (sym (le-leb (takes ls) (length parts) w.0))), w.1)
  weighs_all packed None h e w = sym (formed_bytes h e false (sym (lt-leb (takes ls) (length parts) w)))

  -- what `?` makes of it
  pub weighs_there : (packed : Bool) (r : Option Measured) (m : Measured) (e : BuildError) → ok_or r e ≡ Ok m → WeighsAll packed info parts ls r → (well_formed info parts ls ≡ true) × Measures packed ls m
  weighs_there packed (Some n) m e p w = let same : n ≡ m = cc in rw same at w
  weighs_there packed None m e p w = let z : ◌≡◌ {A = ℕ} 0 1 = cc in absurd (omega arith)

  pub weighs_outside : (packed : Bool) (r : Option Measured) (x e : BuildError) → ok_or r e ≡ Err x → WeighsAll packed info parts ls r → (well_formed info parts ls ≡ false) × (x ≡ e)
  weighs_outside packed (Some n) x e p w = let z : ◌≡◌ {A = ℕ} 0 1 = cc in absurd (omega arith)
  weighs_outside packed None x e p w = let same : x ≡ e = cc in (w, same)

  -- and what it leaves
  module _ (f : well_formed info parts ls ≡ true) where
    pub formed_info : 40 ≤ length info
    unfolding well_formed
    formed_info = leb-true _ _ (and_left _ _ f)

    pub formed_pairs : length ls % 2 ≡ 0
    unfolding well_formed
    formed_pairs = eqb-true _ _ (and_left _ _ (and_right (leb 40 (length info)) _ f))

    pub formed_there : takes ls ≤ length parts
    unfolding well_formed
    formed_there = leb-true _ _ (and_right (eqb (length ls % 2) 0) _ (and_right (leb 40 (length info)) _ f))

pub describes : (root : Bool) (info : List ℕ) → 40 ≤ length info → length (description root info) ≡ pick root 40 0
unfolding description
describes true info h = length-take-le 40 info h
describes false info h = refl

pub space_whole : (n size : ℕ) (root : Bool) → n ≡ space root size → 96 ≤ size → 56 + n + pick root 40 0 ≡ size
unfolding space
space_whole n size true e h = omega arith
space_whole n size false e h = omega arith

-- a plan by the lengths is one of the request
module _ (h : Handed) where
  abbrev q : Request
  q = request_of h

  module _ (formed : well_formed h.info h.parts h.lengths ≡ true) where
    pub count_is : length q.entries ≡ length h.lengths / 2
    count_is = entries_count h.parts h.lengths (formed_pairs h.info h.parts h.lengths formed)

    there : takes h.lengths ≤ length h.parts
    there = formed_there h.info h.parts h.lengths formed

  module _ {packed : Bool} {m : Measured} (w : Weighed packed h m) {size : ℕ} {plan : Plan} (l : LaidOut size h.header h.sizes packed (length h.lengths / 2) m plan) where
    padding_is : plan.packed ≡ is_packed h.info
    padding_is = l.packed_is ∙ w.packed_is

    slots_are : plan.reserved ≡ reserved q size
    unfolding reserved room
    slots_are =
        l.reserved_is
        ∙ ap (λ (r : ℕ). slots h.sizes (leaf_level h.header) r (length h.lengths / 2)) l.room_is
        ∙ ap (slots h.sizes (leaf_level h.header) (space h.header.root size)) (sym (count_is w.formed))

    pub plan_of : PlanOf q size plan
    unfolding room table_length key_bytes all_values
    plan_of =
        record {
          packed_is = padding_is;
          room_is = l.room_is;
          reserved_is = slots_are;
          table_is = l.table_is ∙ ap (λ (n : ℕ). n * slot_width h.sizes) slots_are;
          keys_are = l.keys_are ∙ w.measures.keys_are h.parts (there w.formed) ∙ ap (λ (b : Bool). length (keys b q.entries)) w.packed_is;
          values_are = l.values_are ∙ w.measures.values_are h.parts (there w.formed) ∙ ap (λ (b : Bool). length (values b q.entries)) w.packed_is;
        }

    pub fits_is : (r : Bool) → r ≡ holds (length h.lengths / 2) plan → r ≡ fits q size
    unfolding fits
    fits_is r e = e ∙ same (sym (count_is w.formed)) plan_of.reserved_is plan_of.table_is plan_of.keys_are plan_of.values_are plan_of.room_is
      where
        same : {n s t k v m n' s' t' k' v' m' : ℕ} → n ≡ n' → s ≡ s' → t ≡ t' → k ≡ k' → v ≡ v' → m ≡ m' → (leb n s && leb (t + k + v) m) ≡ (leb n' s' && leb (t' + k' + v') m')
        same a b c d e f = λ i. leb (a i) (b i) && leb (c i + d i + e i) (f i)

-- what a request that fits has
module _ {size : ℕ} {h : Handed} {plan : Plan} (r : Ready size h plan) where
  p : PlanOf (request_of h) size plan
  p = r.plan

  keys_here : keys_of plan.packed h.parts h.lengths ≡ key_bytes (request_of h)
  unfolding key_bytes p
  keys_here = ap (λ (b : Bool). keys_of b h.parts h.lengths) p.packed_is

  values_here : values_of plan.packed h.parts h.lengths ≡ all_values (request_of h)
  unfolding all_values p
  values_here = ap (λ (b : Bool). values_of b h.parts h.lengths) p.packed_is

  pub laid : Laid h.sizes h.parts h.lengths plan
  unfolding fits table_length p
  laid =
      record {
        entries = (formed_pairs h.info h.parts h.lengths r.formed, formed_there h.info h.parts h.lengths r.formed);
        tabled = record { few = omega (arith, few, count_is h r.formed, p.reserved_is); table_is = p.table_is ∙ ap (λ (n : ℕ). n * slot_width h.sizes) (sym p.reserved_is) };
        keys_are = p.keys_are ∙ ap length (sym keys_here);
        values_are = p.values_are ∙ ap length (sym values_here);
        holds = omega (arith, all, p.table_is, p.keys_are, p.values_are, p.room_is);
      }
    where
      few : length (request_of h).entries ≤ reserved (request_of h) size
      few = leb-true _ _ (and_left _ _ r.held)

      all : table_length (request_of h) size + length (key_bytes (request_of h)) + length (all_values (request_of h)) ≤ room (request_of h) size
      all = leb-true _ _ (and_right (leb (length (request_of h).entries) (reserved (request_of h) size)) _ r.held)

  pub room_whole : 56 + plan.room + pick h.header.root 40 0 ≡ size
  unfolding room p
  room_whole = space_whole plan.room size h.header.root p.room_is r.least

  pub whole_info : 40 ≤ length h.info
  whole_info = formed_info h.info h.parts h.lengths r.formed

  free_is : free_of plan ≡ free_length (request_of h) size
  unfolding free_length p
  free_is = omega (arith, p.table_is, p.keys_are, p.values_are, p.room_is)

  -- its regions are the definition's
  pub node_is : headers_of h.header h.sizes (length h.lengths / 2) plan ++ space_of h.sizes h.parts h.lengths plan ++ description h.header.root h.info ≡ unsealed (request_of h) size
  unfolding unsealed p
  node_is =
      (λ i. object_header h.header ++ shape h.header h.sizes (sym (count_is h r.formed) i) ++ areas (p.table_is i) (p.keys_are i) (free_is i)
      ++ (table h.sizes (p.packed_is i) (entries_in h.parts h.lengths) (p.reserved_is i) ++ keys_here i ++ replicate (free_is i) 0 ++ values_here i)
      ++ description h.header.root h.info)
      ∙ ap (λ (x : List ℕ). x ++ description h.header.root h.info) (flat (object_header h.header ++ shape h.header h.sizes (length (request_of h).entries) ++ areas (table_length (request_of h) size) (length (key_bytes (request_of h))) (free_length (request_of h) size)) (table h.sizes (is_packed h.info) (request_of h).entries (reserved (request_of h) size)) (key_bytes (request_of h)) (replicate (free_length (request_of h) size) 0) (all_values (request_of h)))
    where
      flat : (a b c d e : List ℕ) → a ++ (b ++ c ++ d ++ e) ≡ a ++ b ++ c ++ d ++ e
      flat a b c d e =
          sym (append_assoc a (b ++ c ++ d) e)
          ∙ ap (λ (x : List ℕ). x ++ e) (sym (append_assoc a (b ++ c) d) ∙ ap (λ (x : List ℕ). x ++ d) (sym (append_assoc a b c)))

-- keys and values with zeros between, after the table
module _ (packed : Bool) (parts ls : List ℕ) where
  abbrev ks : List ℕ
  ks = keys_of packed parts ls

  abbrev vs : List ℕ
  vs = values_of packed parts ls

  pub pairs_put : (n : ℕ) {at end : ℕ} {l l₁ l₂ : List ℕ} {r s : ℕ} → PairsFill packed parts ls at end l l₁ r → PairsRoom packed parts ls at end (length l) → at + length ks + n + length vs ≡ end
      → Wrote (replicate n 0) r l₁ l₂ s → Wrote (ks ++ replicate n 0 ++ vs) at l l₂ end
  pairs_put n {at} {end} {l} {l₁} {l₂} {r} {s} w room e z =
      record {
        room = omega (arith, long, room.inside);
        is =
            z.is
            ∙ ap (λ (t : List ℕ). written t r (replicate n 0)) w.is
            ∙ sym (written_apart (written l at ks) (replicate n 0) vs r (end - length vs) (omega (arith, w.next, length_zeros n)) (omega (arith, room.inside, same)))
            ∙ ap (λ (x : ℕ). written (written (written l at ks) x (replicate n 0)) (end - length vs) vs) w.next
            ∙ ap (λ (t : List ℕ). written t (end - length vs) vs) (written_twice l at ks (replicate n 0) (omega (arith, room.apart, room.inside)))
            ∙ ap (λ (x : ℕ). written (written l at (ks ++ replicate n 0)) x vs) seam
            ∙ written_twice l at (ks ++ replicate n 0) vs (omega (arith, room.apart, room.inside));
        next = omega (arith, long);
      }
    where
      same : length (written l at ks) ≡ length l
      same = length_written l ks at (omega (arith, room.apart, room.inside))

      long : length (ks ++ replicate n 0 ++ vs) ≡ length ks + n + length vs
      long = simp (length-append, length_zeros) refl

      seam : end - length vs ≡ at + length (ks ++ replicate n 0)
      seam = omega (arith, length-append ks (replicate n 0), length_zeros n)

-- the space after the table
pub space_put : (t k z v : List ℕ) {l l₁ l₂ : List ℕ} {at r s : ℕ} → Wrote t at l l₁ r → Wrote (k ++ z ++ v) r l₁ l₂ s → Wrote (t ++ k ++ z ++ v) at l l₂ s
space_put t k z v a b = rw (flat t k z v) at (wrote_then a b)
  where
    flat : (b c d e : List ℕ) → b ++ (c ++ d ++ e) ≡ b ++ c ++ d ++ e
    flat b c d e = sym (append_assoc b (c ++ d) e) ∙ ap (λ (x : List ℕ). x ++ e) (sym (append_assoc b c d))

-- a request's answer, by the way that each test goes
module _ (found : List ℕ) (q : Request) where
  pub from_size : size_allowed (length found) ≡ false → made (Err NoRoom) found ≡ build_from found q
  unfolding build_from
  from_size e = simp e

  module _ (e : size_allowed (length found) ≡ true) where
    pub from_room : fits q (length found) ≡ false → made (Err NoRoom) found ≡ build_from found q
    unfolding build_from
    from_room f = simp (e, f)

    pub from_fits : fits q (length found) ≡ true → (filled after : List ℕ) (r : ℕ) → Wrote (unsealed q (length found)) 8 found filled r → r ≡ length found → after ≡ sealed (drop 8 filled) → made (Ok tt) after ≡ build_from found q
    unfolding build_from node
    from_fits f filled after r w end s = ap (made (Ok tt)) (s ∙ ap sealed (ap (drop 8) w.is ∙ written_end found (unsealed q (length found)) 8 (omega (arith, w.next)))) ∙ sym (simp (e, f))

module _ (found : List ℕ) (h : Handed) where
  pub build_unformed : well_formed h.info h.parts h.lengths ≡ false → made (Err OutsideBytes) found ≡ build_node found h
  unfolding build_node
  build_unformed e = simp e

  pub build_formed : well_formed h.info h.parts h.lengths ≡ true → build_from found (request_of h) ≡ build_node found h
  unfolding build_node
  build_formed e = simp e
