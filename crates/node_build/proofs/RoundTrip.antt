-- Reading a built node gives back every entry in its order: one argument for both kinds of slots.
use mathlib.Core.Bool.{Bool, true, false, ◌&&◌}
use mathlib.Core.Path.{◌≡◌, refl, sym, ap, ◌∙◌}
use mathlib.Core.List.{List, [], ◌∷◌, ◌++◌, append_assoc}
use Rattle.std.specs.Prelude.{Option, Some, None, Result, Ok, Err}
use Prim.Native.Nat.{ℕ, ◌+◌, ◌-◌, ◌*◌, ◌^◌, ◌≤◌, ◌<◌}
use native.Mathlib.Omega.{arith}
use lib.Dec.{leb}
use lib.ListN.{length, take, drop, length-append}
use borrow.Author.Tests.{le-leb}
use Rattle.fields.specs.Choice.{pick, choose}
use Rattle.fields.specs.Fields.{num}
use Rattle.writers.specs.Bytes.{le_bytes}
use Rattle.writers.proofs.Laws.{length_bytes}
use Rattle.fletcher.specs.Fletcher.{verifies}
use Rattle.blocks.specs.Reads.{given, run}
use Rattle.blocks.specs.Blocks.{read_object, part}
use Rattle.blocks.specs.declared.Address.{Address}
use Rattle.blocks.specs.declared.Container.{Container}
use Rattle.blocks.proofs.Laws.{then_given, object_there, and_left, and_right}
use Rattle.checkpoint.specs.Geometry.{size_allowed}
use Rattle.nodes.specs.Node.{Entry, entry, slot, value_of, is_leaf, is_fixed, keys_at, level_of, table_at, value_end, parse, read_node}
use Rattle.nodes.specs.clauses.Answers.{is_plain, is_sound}
use Rattle.nodes.specs.declared.Description.{Description}
use Rattle.nodes.proofs.Laws.{slot_fixed, slot_variable, fixed_given, variable_given, part_given, value_ghost, value_cut, parse_given, describe_root}
use Rattle.node_build.specs.declared.Sizes.{Sizes}
use Rattle.node_build.specs.declared.Sizes.TheVariants.{Fixed, Variable}
use Rattle.node_build.specs.Build.{Request, is_packed, value_bytes, keys, values, offset_of, length_of, slot_width, slot_bytes, slots_from, leaf_level, key_bytes, all_values, table_length, free_length, fits, table, node}
use Rattle.node_build.specs.Asked.{Handed, request_of, well_formed, Made, made, build_from, build_node}
use Rattle.node_build.specs.declared.BuildError.{BuildError}
use Rattle.node_build.specs.declared.BuildError.TheVariants.{OutsideBytes, NoRoom}
use Rattle.node_build.specs.Readback.{entries_from, Sized, AllSized, Readable, States, read_entries, ReadsBack, described_by, DescribesBack}
use Rattle.node_build.proofs.Laws.{padded_length_lem, padded_least}
use Rattle.node_build.proofs.RegionLaws.{formed_info}
use Rattle.node_build.proofs.Stands.{Stands, stands_in, stands_first, stands_last, stands_left, stands_part, stands_inside, stands_number, key_stands, value_stands, values_length, slot_stands}
use Rattle.node_build.proofs.Places.{BuiltNode, is_fixed_size, root_is, described_part, fitting, most, free_length_lem, table_stands_here, keys_at_lem, values_at_lem, in_node, node_length, leaf_is, fixed_is, hashed_is, count_is, table_begins, keys_begin, value_end_is, level_is, kind_is, verified}

all_at : (z : Sizes) (leaf : Bool) (xs ys : List Entry) (e : Entry) → AllSized z leaf (xs ++ (e ∷ ys)) → Sized z leaf e
all_at z leaf [] ys e a = a.0
all_at z leaf (x ∷ xs) ys e a = all_at z leaf xs ys e a.1

-- what a slot says: the length of a value that isn't there counts nowhere
record SlotRead (f : ℕ → List ℕ) (d : Description) (b : List ℕ) (i koff klen voff : ℕ) (value : Option (List ℕ)) : Type 0 where
  vlen : ℕ
  read : run f (slot d b i) ≡ given (record { koff = koff; klen = klen; voff = voff; vlen = vlen })
  is : (x : List ℕ) → value ≡ Some x → vlen ≡ length x

-- the numbers of a slot that stands at a place
module _ (b : List ℕ) (at koff klen voff vlen : ℕ) (k : koff < 256 ^ 2) (v : voff < 256 ^ 2) where
  module _ (m n : ℕ) (s : Stands (slot_bytes (Fixed m n) koff klen voff vlen) at b) where
    two_first : koff ≡ num 2 b at
    unfolding slot_bytes
    two_first = sym (stands_number 2 koff at b (moved (stands_in _ _ _ 0 at (stands_first (le_bytes 2 koff) (le_bytes 2 voff)) s)) k)
      where
        moved : Stands (le_bytes 2 koff) (at + 0) b → Stands (le_bytes 2 koff) at b
        moved t = rw (none at) at t
          where
            none : (n : ℕ) → n + 0 ≡ n
            none n = omega arith

    two_second : voff ≡ num 2 b (at + 2)
    unfolding slot_bytes
    two_second = sym (stands_number 2 voff (at + 2) b (stands_in _ _ _ 2 at (stands_last (le_bytes 2 koff) (le_bytes 2 voff) 2 (length_bytes 2 koff)) s) v)

    two_inside : at + 4 ≤ length b
    unfolding slot_bytes le_bytes
    two_inside = stands_inside _ b at s

  module _ (s : Stands (slot_bytes Variable koff klen voff vlen) at b) (kl : klen < 256 ^ 2) (vl : vlen < 256 ^ 2) where
    four_first : koff ≡ num 2 b at
    unfolding slot_bytes
    four_first = sym (stands_number 2 koff at b (moved (stands_in _ _ _ 0 at (stands_left _ _ _ _ (stands_left _ _ _ _ (stands_first (le_bytes 2 koff) (le_bytes 2 klen)))) s)) k)
      where
        moved : Stands (le_bytes 2 koff) (at + 0) b → Stands (le_bytes 2 koff) at b
        moved t = rw (none at) at t
          where
            none : (n : ℕ) → n + 0 ≡ n
            none n = omega arith

    four_second : klen ≡ num 2 b (at + 2)
    unfolding slot_bytes
    four_second = sym (stands_number 2 klen (at + 2) b (stands_in _ _ _ 2 at (stands_left _ _ _ _ (stands_left _ _ _ _ (stands_last (le_bytes 2 koff) (le_bytes 2 klen) 2 (length_bytes 2 koff)))) s) kl)

    four_third : voff ≡ num 2 b (at + 4)
    unfolding slot_bytes
    four_third = sym (stands_number 2 voff (at + 4) b (stands_in _ _ _ 4 at (stands_left _ _ _ _ (stands_last (le_bytes 2 koff ++ le_bytes 2 klen) (le_bytes 2 voff) 4 (length-append (le_bytes 2 koff) _ ∙ omega (arith, length_bytes 2 koff, length_bytes 2 klen)))) s) v)

    four_fourth : vlen ≡ num 2 b (at + 6)
    unfolding slot_bytes
    four_fourth = sym (stands_number 2 vlen (at + 6) b (stands_in _ _ _ 6 at (stands_last (le_bytes 2 koff ++ le_bytes 2 klen ++ le_bytes 2 voff) (le_bytes 2 vlen) 6 (length-append (le_bytes 2 koff ++ le_bytes 2 klen) _ ∙ omega (arith, length-append (le_bytes 2 koff) (le_bytes 2 klen), length_bytes 2 koff, length_bytes 2 klen, length_bytes 2 voff))) s) vl)

    four_inside : at + 8 ≤ length b
    unfolding slot_bytes le_bytes
    four_inside = stands_inside _ b at s

module _ {q : Request} {size : ℕ} (built : BuiltNode q size) (rd : Readable q) (f : ℕ → List ℕ) (d : Description) (states : States d q.sizes) where
  abbrev packed : Bool
  packed = is_packed q.info

  abbrev b : List ℕ
  b = node q size

  -- an entry, with those before and after it
  module _ (xs ys : List Entry) (e : Entry) (split : q.entries ≡ xs ++ (e ∷ ys)) (i : ℕ) (index : i ≡ length xs) where
    key_here : Stands e.key (length (keys packed xs)) (key_bytes q)
    unfolding key_bytes
    key_here = rw split (key_stands packed xs ys e)

    key_small : length (keys packed xs) + length e.key ≤ length (key_bytes q)
    key_small = stands_inside e.key (key_bytes q) _ key_here

    key_in : Stands e.key (keys_at b + length (keys packed xs)) b
    key_in = in_node built e.key (48 + table_length q size + length (keys packed xs)) _ (stands_in _ _ _ _ _ key_here (keys_at_lem built)) (omega (arith, keys_begin built))

    key_read : run f (part (length e.key) b (keys_at b + length (keys packed xs))) ≡ given e.key
    key_read = part_given f (length e.key) b _ (stands_inside e.key b _ key_in) ∙ ap given (stands_part e.key b _ key_in)

    -- where its value begins, before the value end
    abbrev back : ℕ
    back = length (values packed xs) + length (value_bytes packed e.value)

    values_sum : length (all_values q) ≡ length (values packed ys) + back
    unfolding all_values values
    values_sum = ap (λ (l : List Entry). length (values packed l)) split ∙ values_length packed xs (e ∷ ys) ∙ omega (arith, length-append (values packed ys) (value_bytes packed e.value))

    value_in : (x : List ℕ) → e.value ≡ Some x → Stands x (value_end b - back) b
    unfolding all_values
    value_in x v = in_node built x (48 + table_length q size + length (key_bytes q) + free_length q size + length (values packed ys)) _
        (stands_in _ _ _ _ _ here (values_at_lem built))
        (omega (arith, values_sum, value_end_is built, free_length_lem built))
      where
        here : Stands x (length (values packed ys)) (values packed q.entries)
        here = rw split (value_stands packed xs ys e x v)

    offset_small : offset_of e.value back < 256 ^ 2
    unfolding offset_of
    offset_small = go e.value
      where
        go : (v : Option (List ℕ)) → offset_of v back < 256 ^ 2
        go None = omega arith
        go (Some x) = omega (arith, values_sum, fitting built, most built)

    slots_here : Stands (slot_bytes q.sizes (length (keys packed xs)) (length e.key) (offset_of e.value back) (length_of e.value)) (length xs * slot_width q.sizes) (slots_from q.sizes packed 0 0 q.entries)
    slots_here = rw split (slot_stands q.sizes packed xs ys e 0 0 (length (keys packed xs)) back (length xs * slot_width q.sizes) (omega arith) (omega arith) refl)

    slot_here : Stands (slot_bytes q.sizes (length (keys packed xs)) (length e.key) (offset_of e.value back) (length_of e.value)) (table_at b + i * slot_width q.sizes) b
    unfolding table
    slot_here = in_node built _ (48 + length xs * slot_width q.sizes) _
        (stands_in _ _ _ (length xs * slot_width q.sizes) 48 (stands_left _ _ _ _ slots_here) (table_stands_here built))
        (ap (λ (n : ℕ). table_at b + n * slot_width q.sizes) index ∙ omega (arith, table_begins built))

    koff_small : length (keys packed xs) < 256 ^ 2
    koff_small = omega (arith, key_small, fitting built, most built)

    value_small : length_of e.value ≤ length (value_bytes packed e.value)
    unfolding length_of value_bytes
    value_small = go e.value
      where
        go : (v : Option (List ℕ)) → length_of v ≤ length (value_bytes packed v)
        go None = omega arith
        go (Some x) = omega (arith, padded_length_lem packed x, padded_least packed (length x))

    -- the two kinds of slots part here, and nowhere else
    slot_read : SlotRead f d b i (length (keys packed xs)) (length e.key) (offset_of e.value back) e.value
    unfolding slot_width length_of
    slot_read = go q.sizes slot_here (fixed_is built) (all_at q.sizes (leaf_level q.header) xs ys e (rw split at rd.sized)) states
      where
        go : (z : Sizes) → Stands (slot_bytes z (length (keys packed xs)) (length e.key) (offset_of e.value back) (length_of e.value)) (table_at b + i * slot_width z) b → is_fixed b ≡ is_fixed_size z → Sized z (leaf_level q.header) e → States d z
            → SlotRead f d b i (length (keys packed xs)) (length e.key) (offset_of e.value back) e.value
        go (Fixed k v) s fx sz st =
            record {
              vlen = pick (is_leaf b) d.value 8;
              read =
                  slot_fixed f d b (table_at b + i * 4) i fx refl
                  ∙ fixed_given f d b (table_at b + i * 4) _
                  (two_first b _ _ (length e.key) _ (length_of e.value) koff_small offset_small k v s)
                  (two_inside b _ _ (length e.key) _ (length_of e.value) koff_small offset_small k v s)
                  (sz.0 ∙ sym st.0)
                  (two_second b _ _ (length e.key) _ (length_of e.value) koff_small offset_small k v s)
                  refl;
              is = λ x p. stated (is_leaf b) (leaf_level q.header) (leaf_is built) d.value v st.1 ∙ sym (sz.1 x p);
            }
          where
            stated : (l m : Bool) → l ≡ m → (u v : ℕ) → u ≡ v → pick l u 8 ≡ pick m v 8
            stated l m r u v w = λ j. pick (r j) (w j) 8
        go Variable s fx sz st =
            record {
              vlen = length_of e.value;
              read =
                  slot_variable f d b (table_at b + i * 8) i fx refl
                  ∙ variable_given f b (table_at b + i * 8) _
                  (four_first b _ _ _ _ _ koff_small offset_small s klen_small vlen_small)
                  (four_inside b _ _ _ _ _ koff_small offset_small s klen_small vlen_small)
                  (four_second b _ _ _ _ _ koff_small offset_small s klen_small vlen_small)
                  (four_third b _ _ _ _ _ koff_small offset_small s klen_small vlen_small)
                  (four_fourth b _ _ _ _ _ koff_small offset_small s klen_small vlen_small);
              is = λ x p. ap length_of p;
            }
          where
            klen_small : length e.key < 256 ^ 2
            klen_small = omega (arith, key_small, fitting built, most built)

            vlen_small : length_of e.value < 256 ^ 2
            vlen_small = omega (arith, value_small, values_sum, fitting built, most built)

    value_read : (vlen : ℕ) → ((x : List ℕ) → e.value ≡ Some x → vlen ≡ length x)
        → run f (value_of b (record { koff = length (keys packed xs); klen = length e.key; voff = offset_of e.value back; vlen = vlen })) ≡ given e.value
    unfolding offset_of run
    value_read vlen same = go e.value refl
      where
        go : (v : Option (List ℕ)) → e.value ≡ v → run f (value_of b (record { koff = length (keys packed xs); klen = length e.key; voff = offset_of v back; vlen = vlen })) ≡ given v
        go None p = value_ghost f b _ refl
        go (Some x) p =
            value_cut f b _ (λ g. omega (arith, values_sum, fitting built, most built))
            (omega (arith, values_sum, fitting built, value_end_is built)) (value_end b - back) refl
            ∙ then_given f _ _ x
            (part_given f vlen b (value_end b - back) (omega (arith, same x p, stands_inside x b _ (value_in x p))) ∙ ap given (ap (λ (n : ℕ). take n (drop (value_end b - back) b)) (same x p) ∙ stands_part x b _ (value_in x p)))

    pub entry_read : run f (entry d b i) ≡ given e
    unfolding run entry
    entry_read = let s = slot_read in then_given f _ _ _ s.read ∙ (then_given f _ _ e.key key_read ∙ then_given f _ _ e.value (value_read s.vlen s.is))

  -- the entries that are left
  pub entries_read : (ys xs : List Entry) (i : ℕ) → q.entries ≡ xs ++ ys → i ≡ length xs → run f (entries_from d b (length ys) i) ≡ given ys
  unfolding run entries_from
  entries_read [] xs i split index = refl
  entries_read (e ∷ ys) xs i split index =
      then_given f (entry d b i) _ e (entry_read xs ys e split i index)
      ∙ then_given f (entries_from d b (length ys) (i + 1)) _ ys (entries_read ys (xs ++ (e ∷ [])) (i + 1) (split ∙ sym (append_assoc xs (e ∷ []) ys)) (omega (arith, length-append xs (e ∷ []))))

  -- as document 01 reads a node, on any image that holds it
  module _ (c : Container) (a : Address) (some_block : 0 < a.0) (inside : a.0 < c.count) (there : f a.0 ≡ b) where
    plain : is_plain b ≡ true
    plain = rw (kind_is built, hashed_is built, rd.kind) refl

    sound : is_sound b ≡ true
    sound = both (leb (keys_at b) (value_end b)) (le-leb (keys_at b) (value_end b) (omega (arith, keys_begin built, value_end_is built, fitting built))) (le-leb (level_of b) 32 (omega (arith, level_is built rd.level, rd.level)))
      where
        both : (p : Bool) {r : Bool} → p ≡ true → r ≡ true → (p && r) ≡ true
        both p g h = λ j. g j && h j

    node_read : run f (read_node c a) ≡ given b
    unfolding read_node
    node_read = then_given f (read_object c a) parse b (object_there f c a some_block inside (ap verifies there ∙ verified built) ∙ ap given there) ∙ parse_given f b plain sound

    pub round_trip : run f (read_entries c d a) ≡ given q.entries
    round_trip = then_given f (read_node c a) _ b node_read ∙ ap (λ (n : ℕ). run f (entries_from d b n 0)) (count_is built) ∙ entries_read q.entries [] 0 refl refl

-- what an answer of a built node tells
module _ (found : List ℕ) (h : Handed) (n : List ℕ) where
  from_done : build_from found (request_of h) ≡ made (Ok tt) n → ((size_allowed (length found) && fits (request_of h) (length found)) ≡ true) × (n ≡ node (request_of h) (length found))
  unfolding build_from
  from_done e = go (size_allowed (length found) && fits (request_of h) (length found)) refl e
    where
      go : (t : Bool) → (size_allowed (length found) && fits (request_of h) (length found)) ≡ t → choose t (λ _. made (Ok tt) (node (request_of h) (length found))) (λ _. made (Err NoRoom) found) ≡ made (Ok tt) n
          → ((size_allowed (length found) && fits (request_of h) (length found)) ≡ true) × (n ≡ node (request_of h) (length found))
      go true p r = (p, sym (ap (λ (m : Made). m.node) r))
      go false p r = absurd (apart (ap (λ (m : Made). m.answer) r))
        where
          apart : ◌≡◌ {A = Result (Unit {0}) BuildError} (Err NoRoom) (Ok tt) → ⊥
          apart u = let z : ◌≡◌ {A = ℕ} 0 1 = cc in absurd (omega arith)

  node_done : build_node found h ≡ made (Ok tt) n → (well_formed h.info h.parts h.lengths ≡ true) × (build_from found (request_of h) ≡ made (Ok tt) n)
  unfolding build_node
  node_done e = go (well_formed h.info h.parts h.lengths) refl e
    where
      go : (t : Bool) → well_formed h.info h.parts h.lengths ≡ t → choose t (λ _. build_from found (request_of h)) (λ _. made (Err OutsideBytes) found) ≡ made (Ok tt) n
          → (well_formed h.info h.parts h.lengths ≡ true) × (build_from found (request_of h) ≡ made (Ok tt) n)
      go true p r = (p, r)
      go false p r = absurd (apart (ap (λ (m : Made). m.answer) r))
        where
          apart : ◌≡◌ {A = Result (Unit {0}) BuildError} (Err OutsideBytes) (Ok tt) → ⊥
          apart u = let z : ◌≡◌ {A = ℕ} 0 1 = cc in absurd (omega arith)

  node_built : build_node found h ≡ made (Ok tt) n → BuiltNode (request_of h) (length found) × (n ≡ node (request_of h) (length found))
  node_built e =
      let formed = node_done e in
      let held = from_done formed.1 in (
        record {
          admitted = and_left _ _ held.0;
          held = and_right (size_allowed (length found)) _ held.0;
          whole_info = formed_info h.info h.parts h.lengths formed.0;
        },
        held.1,
      )

-- document 02's promise
pub reads_back : (found : List ℕ) (h : Handed) → ReadsBack found h
reads_back found h n e rd d states c a some_block inside f there =
    let built = node_built found h n e in
    round_trip built.0 rd f d states c a some_block inside (there ∙ built.1)

pub describes_back : (found : List ℕ) (h : Handed) → DescribesBack found h
describes_back found h n e root f =
    let built = node_built found h n e in
    let size = length found in
    rw built.1
    (describe_root f (node (request_of h) size) (size - 40) (omega (arith, node_length built.0)) (root_is built.0 ∙ root) (described_by h.info)
    (sym (at_zero (node (request_of h) size) (size - 40) ∙ described_part built.0 root 0 (omega arith)))
    (sym (described_part built.0 root 8 (omega arith)))
    (sym (described_part built.0 root 12 (omega arith))))
  where
    at_zero : (b : List ℕ) (k : ℕ) → num 4 b k ≡ num 4 b (k + 0)
    at_zero b k = ap (num 4 b) none
      where
        none : k ≡ k + 0
        none = omega arith
