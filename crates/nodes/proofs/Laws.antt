-- Laws of nodes: what each step of a definition gives, by the way that its test goes.
use mathlib.Core.Path.{◌≡◌, refl, sym, ap, ◌∙◌}
use mathlib.Core.Bool.{Bool, true, false, not, ◌||◌, ◌&&◌}
use mathlib.Core.List.{List}
use Rattle.std.specs.Prelude.{Option, Some, None}
use Prim.Native.Nat.{ℕ, ◌+◌, ◌-◌, ◌*◌, ◌/◌, ◌^◌, ◌≤◌, ◌<◌}
use native.Mathlib.Decide.{dec_le}
use native.Mathlib.Omega.{arith}
use lib.Dec.{leb, eqb}
use lib.ListN.{length, take, drop}
use borrow.Author.Tests.{le-leb, lt-leb, leb-true, leb-false, eq-eqb, ne_eqb, not-true, not-false}
use Rattle.fields.specs.Choice.{pick}
use Rattle.fields.specs.Fields.{num, field_at, bit}
use Rattle.std.specs.Prelude.{Result, Ok, Err, IsErrAnd}
use Rattle.std.specs.Option.{ok_or}
use Rattle.std.specs.Borrow.{Bor}
use Rattle.fields.proofs.Laws.{field_there, field_absent}
use Rattle.fields.specs.Header.{kind_of, object_map_kind}
use Rattle.blocks.specs.Reads.{Reads, Outcome, given, refused, run, done, ◌>>=◌, need}
use Rattle.blocks.specs.Blocks.{read_object, present, field, part}
use Rattle.blocks.specs.clauses.Answers.{outcome, there_as, slice_as}
use Rattle.blocks.specs.declared.Refusal.{Refusal}
use Rattle.blocks.specs.declared.Address.{Address}
use Rattle.blocks.specs.declared.Container.{Container}
use Rattle.blocks.specs.declared.Refusal.TheVariants.{WrongKind, BadNode, OutsideBytes}
use Rattle.blocks.proofs.Laws.{need_true, need_false, need_held, both, then_given, then_refused, is_refused, object_given}
use Rattle.nodes.specs.Node.{is_root, is_leaf, is_fixed, table_at, keys_at, description_length, value_end, parse, read_node, describe, fixed_slot, variable_slot, slot, ghost_offset, value_of, entry, pointer}
use Rattle.nodes.specs.declared.Description.{Description}
use Rattle.nodes.specs.declared.Slot.{Slot}
use Rattle.nodes.specs.declared.Part.{Part}
use Rattle.nodes.specs.ObjectMap.{tree_type, physical, root_address, read_object_map, describe_map, load_object_map}
use Rattle.nodes.specs.clauses.Answers.{is_plain, is_sound, part_in, value_in}

-- a kind that may be either of two
module _ (k kind m n : ℕ) (q : k ≡ kind) where
  pub first_kind : k ≡ m → eqb k m ≡ (eqb kind m || eqb kind n)
  first_kind e = rw (← q) (simp (eq-eqb k m e))

  pub other_kind : (k ≡ m → ⊥) → eqb k n ≡ (eqb kind m || eqb kind n)
  other_kind e = rw (← q) (simp (ne_eqb k m e))

-- a node's values end before its description, if it has one
module _ (b : List ℕ) where
  pub value_end_root : is_root b ≡ true → value_end b ≡ length b - description_length
  unfolding value_end
  value_end_root e = simp e

  pub value_end_other : is_root b ≡ false → value_end b ≡ length b
  unfolding value_end
  value_end_other e = simp e

-- two tests that refuse alike are one
pub need_both : {A : Type 0} (f : ℕ → List ℕ) (p q : Bool) (r : Refusal) (k : Unit {0} → Reads A) → run f (need p r >>= λ _. need q r >>= k) ≡ run f (need (p && q) r >>= k)
unfolding run need ◌>>=◌
need_both f true q r k = refl
need_both f false q r k = refl

-- what follows a test, where it comes to the same
need_then : {A : Type 0} (f : ℕ → List ℕ) (p : Bool) (r : Refusal) (k l : Unit {0} → Reads A) → run f (k tt) ≡ run f (l tt) → run f (need p r >>= k) ≡ run f (need p r >>= l)
unfolding run need ◌>>=◌
need_then f true r k l e = e
need_then f false r k l e = refl

-- two tests in one, by the way that the first goes
module _ (p q : Bool) where
  pub and_both : p ≡ true → (r : Bool) → r ≡ q → r ≡ (p && q)
  and_both e r h = rw e h

  pub and_first : p ≡ false → false ≡ (p && q)
  and_first e = rw e

module _ (x y a b : ℕ) (p : x ≡ a) (q : y ≡ b) where
  pub bound_held : x ≤ y → (z c n : ℕ) → z ≡ c → leb z n ≡ (leb a b && leb c n)
  bound_held h z c n r = rw (← p, ← q, ← r) (simp (le-leb x y h))

  pub bound_passed : y < x → (s : Bool) → leb x y ≡ (leb a b && s)
  bound_passed h s = rw (← p, ← q) (simp (lt-leb x y h))

-- a node's tests, in their order
module _ (f : ℕ → List ℕ) (b : List ℕ) where
  parse_two : run f (parse b) ≡ run f (need (is_plain b) WrongKind >>= λ _. need (is_sound b) BadNode >>= λ _. done b)
  unfolding parse
  parse_two = need_both f _ _ _ _ ∙ need_then f _ _ _ _ (need_both f _ _ _ _)

  pub parse_kind : is_plain b ≡ false → run f (parse b) ≡ refused WrongKind
  parse_kind p = parse_two ∙ need_false f _ _ _ p

  module _ (p : is_plain b ≡ true) where
    pub parse_bad : is_sound b ≡ false → run f (parse b) ≡ refused BadNode
    parse_bad s = parse_two ∙ (need_true f _ _ _ p ∙ need_false f _ _ _ s)

    pub parse_given : is_sound b ≡ true → run f (parse b) ≡ given b
    unfolding run
    parse_given s = parse_two ∙ (need_true f _ _ _ p ∙ need_true f _ _ _ s)

  -- a root's description
  pub describe_other : is_root b ≡ false → run f (describe b) ≡ refused BadNode
  unfolding run describe need ◌>>=◌
  describe_other e = simp e

  pub describe_root : (at : ℕ) → at ≡ length b - description_length → is_root b ≡ true → (d : Description) → d.flags ≡ num 4 b at → d.key ≡ num 4 b (at + 8) → d.value ≡ num 4 b (at + 12) → run f (describe b) ≡ given d
  unfolding run describe need ◌>>=◌
  describe_root at q e d p k v = simp (e, ← q, ← p, ← k, ← v)

-- what was taken, where something was
pub parse_same : (f : ℕ → List ℕ) (b n : List ℕ) → run f (parse b) ≡ given n → n ≡ b
unfolding run parse ◌>>=◌
parse_same f b n e =
    let kind = need_held f _ _ _ n e in
    let plain = need_held f _ _ _ n kind.1 in
    let area = need_held f _ _ _ n plain.1 in
    let level = need_held f _ _ _ n area.1 in
    let same : given b ≡ given n = level.1 in cc

module _ (f : ℕ → List ℕ) (c : Container) (a : Address) where
  pub node_given : (b : List ℕ) → run f (read_node c a) ≡ given b → b ≡ f a.0
  unfolding read_node
  node_given b e =
      let h = both f (read_object c a) parse b e in
      parse_same f h.first b h.rest ∙ object_given f c a h.first h.came

  pub node_refused : (r : Refusal) → run f (read_object c a) ≡ refused r → run f (read_node c a) ≡ refused r
  unfolding read_node
  node_refused r e = then_refused f _ _ r e

-- a node is the bytes that were tested
module _ (f : ℕ → List ℕ) (b : List ℕ) (r : Result (Unit {0}) Refusal) (e : there_as b r ≡ run f (parse b)) where
  pub node_refused_by : (x : Refusal) → r ≡ Err x → (s : Result (Bor (List ℕ)) Refusal) → IsErrAnd s (λ y. y ≡ x) → slice_as s ≡ run f (parse b)
  node_refused_by x q (Err y) h = ap refused h ∙ sym (is_refused _ r f (parse b) e x q)
  node_refused_by x q (Ok n) h = absurd h

-- what a test for room tells
module _ (at len n : ℕ) (r : Bool) (q : r ≡ leb (at + len) n) where
  pub room_there : not r ≡ false → at + len ≤ n
  room_there e = leb-true _ _ (sym q ∙ not-false _ e)

  pub room_missing : not r ≡ true → n < at + len
  room_missing e = leb-false _ _ (sym q ∙ not-true _ e)

-- a field, and what follows it
module _ {A : Type 0} (f : ℕ → List ℕ) (w : ℕ) (b : List ℕ) (off : ℕ) (k : ℕ → Reads A) where
  pub field_given : off + w ≤ length b → run f (field w b off >>= k) ≡ run f (k (num w b off))
  unfolding field present ◌>>=◌
  field_given h = rw (field_there w b off h)

  pub field_refused : length b < off + w → run f (field w b off >>= k) ≡ refused OutsideBytes
  unfolding run field present ◌>>=◌
  field_refused h = rw (field_absent w b off h)

  -- one of several fields is absent
  pub field_or_later : (off + w ≤ length b → run f (k (num w b off)) ≡ refused OutsideBytes) → run f (field w b off >>= k) ≡ refused OutsideBytes
  field_or_later later = go (dec_le (off + w) (length b))
    where
      go : Dec (off + w ≤ length b) → run f (field w b off >>= k) ≡ refused OutsideBytes
      go (yes h) = field_given h ∙ later h
      go (no h) = field_refused (omega arith)

-- a row of the table at e
module _ (f : ℕ → List ℕ) (b : List ℕ) (e : ℕ) where
  pub variable_outside : length b < e + 8 → run f (variable_slot b e) ≡ refused OutsideBytes
  unfolding variable_slot
  variable_outside h =
      field_or_later f 2 b e _ (λ _. field_or_later f 2 b (e + 2) _ (λ _. field_or_later f 2 b (e + 4) _ (λ _. field_refused f 2 b (e + 6) _ (omega arith))))

  pub variable_given : (s : Slot) → s.koff ≡ num 2 b e → e + 8 ≤ length b → s.klen ≡ num 2 b (e + 2) → s.voff ≡ num 2 b (e + 4) → s.vlen ≡ num 2 b (e + 6) → run f (variable_slot b e) ≡ given s
  unfolding run variable_slot
  variable_given s k h kl v vl =
      field_given f 2 b e _ (omega arith) ∙ (field_given f 2 b (e + 2) _ (omega arith) ∙ (field_given f 2 b (e + 4) _ (omega arith) ∙ (field_given f 2 b (e + 6) _ (omega arith) ∙ simp (← k, ← kl, ← v, ← vl))))

module _ (f : ℕ → List ℕ) (d : Description) (b : List ℕ) (e : ℕ) where
  pub fixed_outside : length b < e + 4 → run f (fixed_slot d b e) ≡ refused OutsideBytes
  unfolding fixed_slot
  fixed_outside h = field_or_later f 2 b e _ (λ _. field_refused f 2 b (e + 2) _ (omega arith))

  -- s is the row's slot
  pub fixed_given : (s : Slot) → s.koff ≡ num 2 b e → e + 4 ≤ length b → s.klen ≡ d.key → s.voff ≡ num 2 b (e + 2) → s.vlen ≡ pick (is_leaf b) d.value 8 → run f (fixed_slot d b e) ≡ given s
  unfolding run fixed_slot
  fixed_given s k h kl v vl = field_given f 2 b e _ (omega arith) ∙ (field_given f 2 b (e + 2) _ (omega arith) ∙ simp (← k, ← kl, ← v, ← vl))

  -- e is where row i begins
  module _ (i : ℕ) where
    pub slot_fixed : is_fixed b ≡ true → e ≡ table_at b + i * 4 → run f (slot d b i) ≡ run f (fixed_slot d b e)
    unfolding slot
    slot_fixed h q = simp (h, ← q)

    pub slot_variable : is_fixed b ≡ false → e ≡ table_at b + i * 8 → run f (slot d b i) ≡ run f (variable_slot b e)
    unfolding slot
    slot_variable h q = simp (h, ← q)

-- a row that would begin past the node's end
module _ (f : ℕ → List ℕ) (d : Description) (b : List ℕ) (i : ℕ) where
  pub slot_fixed_past : is_fixed b ≡ true → length b / 4 < i → run f (slot d b i) ≡ refused OutsideBytes
  slot_fixed_past h l = slot_fixed f d b _ i h refl ∙ fixed_outside f d b (table_at b + i * 4) (omega arith)

  pub slot_variable_past : is_fixed b ≡ false → length b / 8 < i → run f (slot d b i) ≡ refused OutsideBytes
  slot_variable_past h l = slot_variable f d b _ i h refl ∙ variable_outside f b (table_at b + i * 8) (omega arith)

-- bytes that must all be there
module _ (f : ℕ → List ℕ) (n : ℕ) (b : List ℕ) (off : ℕ) where
  pub part_given : off + n ≤ length b → run f (part n b off) ≡ given (take n (drop off b))
  unfolding run part need ◌>>=◌
  part_given h = simp (le-leb _ _ h)

  pub part_refused : length b < off + n → run f (part n b off) ≡ refused OutsideBytes
  unfolding run part need ◌>>=◌
  part_refused h = simp (lt-leb _ _ h)

-- a row's value
module _ (f : ℕ → List ℕ) (b : List ℕ) (s : Slot) where
  pub value_ghost : s.voff ≡ ghost_offset → run f (value_of b s) ≡ given None
  unfolding run value_of
  value_ghost g = simp (eq-eqb _ _ g)

  module _ (g : s.voff ≡ ghost_offset → ⊥) where
    pub value_before : value_end b < s.voff → run f (value_of b s) ≡ refused OutsideBytes
    unfolding run value_of need ◌>>=◌
    value_before h = simp (ne_eqb _ _ g, lt-leb _ _ h)

    -- at is where it begins
    module _ (h : s.voff ≤ value_end b) (at : ℕ) (q : at ≡ value_end b - s.voff) where
      pub value_cut : run f (value_of b s) ≡ run f (part s.vlen b at >>= λ v. done (Some v))
      unfolding run value_of need ◌>>=◌
      value_cut = simp (ne_eqb _ _ g, le-leb _ _ h, ← q)

-- a field, by what a reader of it found
module _ (f : ℕ → List ℕ) (w : ℕ) (b : List ℕ) (off : ℕ) where
  present_found : (r : Option ℕ) → outcome (ok_or r OutsideBytes) ≡ run f (present r)
  unfolding run present
  present_found (Some v) = refl
  present_found None = refl

  pub field_found : (r : Option ℕ) → r ≡ field_at w b off → outcome (ok_or r OutsideBytes) ≡ run f (field w b off)
  unfolding field
  field_found r e = present_found r ∙ ap (λ x. run f (present x)) e

-- a pointer is the first field of a value
module _ (f : ℕ → List ℕ) (b : List ℕ) where
  pub pointer_ghost : (v : Option Part) (x : Refusal) → ok_or v OutsideBytes ≡ Err x → (s : Result ℕ Refusal) → IsErrAnd s (λ y. y ≡ x) → outcome s ≡ run f (pointer (value_in b v))
  unfolding run pointer
  pointer_ghost None x e (Err y) q = let same : OutsideBytes ≡ x = cc in ap refused (q ∙ sym same)
  pointer_ghost None x e (Ok n) q = absurd q
  pointer_ghost (Some p) x e s q = let z : ◌≡◌ {A = ℕ} 0 1 = cc in absurd (omega arith)

  pub pointer_field : (v : Option Part) (p : Part) → ok_or v OutsideBytes ≡ Ok p → run f (pointer (value_in b v)) ≡ run f (field 8 (part_in b p) 0)
  unfolding pointer
  pointer_field None p e = let z : ◌≡◌ {A = ℕ} 0 1 = cc in absurd (omega arith)
  pointer_field (Some q) p e = let same : q ≡ p = cc in rw same

-- what an object map's header asks for
module _ (f : ℕ → List ℕ) (b : List ℕ) (kind : ℕ) (is : kind ≡ kind_of b) where
  pub map_kind : {A : Type 0} (k : Unit {0} → Reads A) → (kind ≡ object_map_kind → ⊥) → refused WrongKind ≡ run f (need (eqb (kind_of b) object_map_kind) WrongKind >>= k)
  map_kind k h = sym (need_false f _ _ _ (ne_eqb _ _ (rw is at h)))

  module _ (h : kind ≡ object_map_kind) (type : ℕ) (t : type ≡ tree_type b) where
    pub map_stored : (type / 2 ^ 30 ≡ physical → ⊥) → refused WrongKind ≡ run f (need (eqb (kind_of b) object_map_kind) WrongKind >>= λ _. need (eqb (tree_type b / 2 ^ 30) physical) WrongKind >>= λ _. done (root_address b))
    map_stored p = sym (need_true f _ _ _ (eq-eqb _ _ (sym is ∙ h)) ∙ need_false f _ _ _ (ne_eqb _ _ (rw t at p)))

    pub map_root : type / 2 ^ 30 ≡ physical → (n : ℕ) → n ≡ num 8 b 48 → given (record { 0 = n }) ≡ run f (need (eqb (kind_of b) object_map_kind) WrongKind >>= λ _. need (eqb (tree_type b / 2 ^ 30) physical) WrongKind >>= λ _. done (root_address b))
    unfolding run
    map_root p n r = sym (need_true f _ _ _ (eq-eqb _ _ (sym is ∙ h)) ∙ (need_true f _ _ _ (eq-eqb _ _ (rw t at p)) ∙ rw r))
