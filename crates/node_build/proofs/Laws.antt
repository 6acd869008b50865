-- Laws of what is handed over: one entry at a time, by the lengths.
use mathlib.Core.Path.{◌≡◌, refl, sym, ap, ◌∙◌}
use mathlib.Core.Bool.{Bool, true, false}
use mathlib.Core.List.{List, [], ◌∷◌, ◌++◌}
use Rattle.std.specs.Prelude.{Option, Some, None}
use Prim.Native.Nat.{ℕ, suc, ◌+◌, ◌-◌, ◌*◌, ◌/◌, ◌%◌, ◌≤◌, ◌<◌}
use native.Mathlib.Nat.{zero-add, suc-mul, zero-mul, add-mul, mul-le-mul_right}
use native.Mathlib.Omega.{arith}
use lib.Dec.{eqb}
use lib.ListN.{length, take, drop, get_or, replicate, length-append, length-drop}
use lib.Seq.{drop-drop, length-take-le}
use Rattle.fields.specs.Choice.{pick}
use Rattle.writers.specs.clauses.Wrote.{written, Wrote}
use Rattle.writers.proofs.Laws.{length_zeros, Writing, writing_from, writing_next, writing_done, wrote_then, wrote_length, length_written, written_none, written_twice, written_before, written_apart}
use Rattle.nodes.specs.Node.{Entry, ghost_offset}
use Rattle.node_build.specs.declared.Sizes.{Sizes}
use Rattle.node_build.specs.Build.{padded_length, padded, value_bytes, keys, values, offset_of, length_of, slot_width, slot_bytes, slots_from, table}
use Rattle.node_build.specs.Asked.{ghost_length, taken, value_in, entries_in, takes}
use Rattle.node_build.specs.clauses.Lengths.{offset_for, Measures}
use Rattle.node_build.specs.clauses.Regions.{keys_of, values_of, PairsRoom, PairsFill}
use Rattle.node_build.proofs.Stands.{slot_length}

-- padding adds at most seven bytes
pub padded_least : (packed : Bool) (n : ℕ) → n ≤ padded_length packed n
unfolding padded_length
padded_least true n = omega arith
padded_least false n = omega arith

pub padded_most : (packed : Bool) (n : ℕ) → padded_length packed n ≤ n + 7
unfolding padded_length
padded_most true n = omega arith
padded_most false n = omega arith

padded_none : (packed : Bool) → padded_length packed 0 ≡ 0
unfolding padded_length
padded_none true = refl
padded_none false = refl

pub padded_length_lem : (packed : Bool) (x : List ℕ) → length (padded packed x) ≡ padded_length packed (length x)
unfolding padded
padded_length_lem packed x =
    length-append x _ ∙ ap (λ (n : ℕ). length x + n) (length_zeros _) ∙ back (padded_least packed (length x))
  where
    back : {m n : ℕ} → m ≤ n → m + (n - m) ≡ n
    back h = omega arith

-- what is left of lengths, and the next pair of it
pub next_pair : (left pair more : List ℕ) {n : ℕ} → n ≡ 2 → (left ≡ pair ++ more) × (length pair ≡ n) → left ≡ get_or pair 0 0 ∷ get_or pair 1 0 ∷ more
next_pair left (k ∷ v ∷ []) more two cut = cut.0
next_pair left [] more two cut = absurd (omega (arith, cut.1))
next_pair left (k ∷ []) more two cut = absurd (omega (arith, cut.1))
next_pair left (k ∷ v ∷ x ∷ l) more two cut = absurd (omega (arith, cut.1))

module _ {left more : List ℕ} {k v : ℕ} (cut : left ≡ k ∷ v ∷ more) where
  pub fewer : length left ≡ length more + 2
  fewer = ap length cut ∙ omega arith

  pub takes_more : takes left ≡ k + taken v + takes more
  unfolding takes
  takes_more = ap takes cut

  pub entries_more : (bytes : List ℕ) (p q : ℕ) → q ≡ p + (k + taken v)
      → entries_in (drop p bytes) left ≡ (record { key = take k (drop p bytes); value = value_in v (drop (p + k) bytes) }) ∷ entries_in (drop q bytes) more
  unfolding entries_in
  entries_more bytes p q e =
      ap (entries_in (drop p bytes)) cut
      ∙ ap (λ (b : List ℕ). (record { key = take k (drop p bytes); value = value_in v b }) ∷ entries_in (drop (k + taken v) (drop p bytes)) more) (drop-drop k p bytes)
      ∙ ap (λ (b : List ℕ). (record { key = take k (drop p bytes); value = value_in v (drop (p + k) bytes) }) ∷ entries_in b more) (drop-drop (k + taken v) p bytes ∙ ap (λ (n : ℕ). drop n bytes) (sym e))

-- at the end of the lengths
pub takes_none : (left : List ℕ) → length left < 2 → takes left ≡ 0
unfolding takes
takes_none [] h = refl
takes_none (k ∷ []) h = refl
takes_none (k ∷ v ∷ l) h = absurd (omega arith)

pub entries_none : (left b : List ℕ) → length left < 2 → entries_in b left ≡ []
unfolding entries_in
entries_none [] b h = refl
entries_none (k ∷ []) b h = refl
entries_none (k ∷ v ∷ l) b h = absurd (omega arith)

-- a value by its length
pub value_bytes_lem : (packed : Bool) (v : ℕ) (b : List ℕ) → value_bytes packed (value_in v b) ≡ padded packed (take (taken v) b)
unfolding taken value_in value_bytes padded
value_bytes_lem packed v b = go (eqb v ghost_length)
  where
    go : (t : Bool) → value_bytes packed (pick t None (Some (take v b))) ≡ padded packed (take (pick t 0 v) b)
    go true = rw (padded_none packed) refl
    go false = refl

pub value_length : (v : ℕ) (b : List ℕ) → taken v ≤ length b → length_of (value_in v b) ≡ taken v
unfolding taken value_in length_of
value_length v b h = go (eqb v ghost_length) h
  where
    go : (t : Bool) → pick t 0 v ≤ length b → length_of (pick t None (Some (take v b))) ≡ pick t 0 v
    go true l = refl
    go false l = length-take-le v b l

pub value_offset : (v : ℕ) (b : List ℕ) (n : ℕ) → offset_of (value_in v b) n ≡ offset_for v n
unfolding value_in offset_for offset_of
value_offset v b n = go (eqb v ghost_length)
  where
    go : (t : Bool) → offset_of (pick t None (Some (take v b))) n ≡ pick t ghost_offset n
    go true = refl
    go false = refl

pub part_length : (bytes : List ℕ) (p k : ℕ) → p + k ≤ length bytes → length (take k (drop p bytes)) ≡ k
part_length bytes p k h = length-take-le k (drop p bytes) (rw length-drop (omega arith))

-- what is left of lengths, and the bytes that the entries before it take
pub record Along (ls left : List ℕ) (p : ℕ) : Type 0 where
  pub inside : length left ≤ length ls
  pub passed : p + takes left ≡ takes ls

pub along_start : (ls : List ℕ) (p : ℕ) → p ≡ 0 → Along ls ls p
along_start ls p e = record { inside = omega arith; passed = omega arith }

module _ {ls left more : List ℕ} {p k v : ℕ} (a : Along ls left p) (cut : left ≡ k ∷ v ∷ more) where
  pub along_more : (q : ℕ) → q ≡ p + (k + taken v) → Along ls more q
  along_more q e = record { inside = omega (arith, a.inside, fewer cut); passed = omega (arith, a.passed, takes_more cut) }

  -- the bytes of an entry are there
  pub entry_inside : p + (k + taken v) ≤ takes ls
  entry_inside = omega (arith, a.passed, takes_more cut)

-- the entries that are left
abbrev pub rest : List ℕ → List ℕ → ℕ → List Entry
rest bytes left p = entries_in (drop p bytes) left

-- one entry of them
module _ (packed : Bool) (bytes : List ℕ) {ls left more : List ℕ} {p k v : ℕ} (a : Along ls left p) (cut : left ≡ k ∷ v ∷ more) (there : takes ls ≤ length bytes) (q : ℕ) (e : q ≡ p + (k + taken v)) where
  pub first_left : rest bytes left p ≡ (record { key = take k (drop p bytes); value = value_in v (drop (p + k) bytes) }) ∷ rest bytes more q
  first_left = entries_more cut bytes p q e

  bound : p + (k + taken v) ≤ takes ls
  bound = entry_inside a cut

  pub keys_next : keys packed (rest bytes left p) ≡ padded packed (take k (drop p bytes)) ++ keys packed (rest bytes more q)
  unfolding keys
  keys_next = ap (keys packed) first_left

  pub values_next : values packed (rest bytes left p) ≡ values packed (rest bytes more q) ++ padded packed (take (taken v) (drop (p + k) bytes))
  unfolding values
  values_next = ap (values packed) first_left ∙ ap (λ (x : List ℕ). values packed (rest bytes more q) ++ x) (value_bytes_lem packed v (drop (p + k) bytes))

  pub key_length : length (padded packed (take k (drop p bytes))) ≡ padded_length packed k
  key_length = padded_length_lem packed _ ∙ ap (padded_length packed) (part_length bytes p k (omega (arith, bound)))

  pub value_length_here : length (padded packed (take (taken v) (drop (p + k) bytes))) ≡ padded_length packed (taken v)
  value_length_here = padded_length_lem packed _ ∙ ap (padded_length packed) (part_length bytes (p + k) (taken v) (omega (arith, bound)))

  pub slots_next : (z : Sizes) (koff voff koff' next : ℕ) → koff' ≡ koff + padded_length packed k → next ≡ voff + padded_length packed (taken v)
      → slots_from z packed koff voff (rest bytes left p) ≡ slot_bytes z koff k (offset_for v next) (taken v) ++ slots_from z packed koff' next (rest bytes more q)
  unfolding slots_from
  slots_next z koff voff koff' next key-end value-end =
      ap (slots_from z packed koff voff) first_left
      ∙ one (length (take k (drop p bytes))) (voff + length (value_bytes packed val)) (offset_of val (voff + length (value_bytes packed val))) (length_of val) (koff + length (padded packed (take k (drop p bytes))))
      (part_length bytes p k (omega (arith, bound)))
      value_at
      (value_offset v (drop (p + k) bytes) _ ∙ ap (offset_for v) value_at)
      (value_length v (drop (p + k) bytes) (rw length-drop (omega (arith, bound))))
      (ap (λ (n : ℕ). koff + n) key_length ∙ sym key-end)
    where
      val : Option (List ℕ)
      val = value_in v (drop (p + k) bytes)

      value_at : voff + length (value_bytes packed val) ≡ next
      value_at = ap (λ (n : ℕ). voff + n) (ap length (value_bytes_lem packed v (drop (p + k) bytes)) ∙ value_length_here) ∙ sym value-end

      one : (kl n o vl ko : ℕ) → kl ≡ k → n ≡ next → o ≡ offset_for v next → vl ≡ taken v → ko ≡ koff'
          → slot_bytes z koff kl o vl ++ slots_from z packed ko n (rest bytes more q) ≡ slot_bytes z koff k (offset_for v next) (taken v) ++ slots_from z packed koff' next (rest bytes more q)
      one kl n o vl ko p₁ p₂ p₃ p₄ p₅ = λ j. slot_bytes z koff (p₁ j) (p₃ j) (p₄ j) ++ slots_from z packed (p₅ j) (p₂ j) (rest bytes more q)

-- at the end nothing is left
module _ (packed : Bool) (bytes left : List ℕ) (p : ℕ) (h : length left < 2) where
  pub keys_none : keys packed (rest bytes left p) ≡ []
  unfolding keys
  keys_none = ap (keys packed) (entries_none left (drop p bytes) h)

  pub values_none : values packed (rest bytes left p) ≡ []
  unfolding values
  values_none = ap (values packed) (entries_none left (drop p bytes) h)

  pub slots_none : (z : Sizes) (koff voff : ℕ) → slots_from z packed koff voff (rest bytes left p) ≡ []
  unfolding slots_from
  slots_none z koff voff = ap (slots_from z packed koff voff) (entries_none left (drop p bytes) h)

-- `measure`: what is left of the bytes, and of both sums, whatever the bytes are
pub record Measuring (packed : Bool) (ls : List ℕ) (room : ℕ) (left : List ℕ) (spare ks vs : ℕ) : Type 0 where
  pub enough : spare ≤ room
  pub along : Along ls left (room - spare)
  pub keys_left_lem : (parts : List ℕ) → takes ls ≤ length parts → ks + length (keys packed (rest parts left (room - spare))) ≡ length (keys packed (entries_in parts ls))
  pub values_left_lem : (parts : List ℕ) → takes ls ≤ length parts → vs + length (values packed (rest parts left (room - spare))) ≡ length (values packed (entries_in parts ls))
  pub most : ks + vs + spare + 7 * length left ≤ room + 7 * length ls

module _ {packed : Bool} {ls : List ℕ} {room : ℕ} where
  pub measuring_from : Measuring packed ls room ls room 0 0
  measuring_from =
      record {
        enough = omega arith;
        along = along_start ls (room - room) (omega arith);
        keys_left_lem = λ parts t. ap (λ (p : ℕ). 0 + length (keys packed (rest parts ls p))) none ∙ zero-add _;
        values_left_lem = λ parts t. ap (λ (p : ℕ). 0 + length (values packed (rest parts ls p))) none ∙ zero-add _;
        most = omega arith;
      }
    where
      none : room - room ≡ 0
      none = omega arith

  module _ {left : List ℕ} {spare ks vs : ℕ} (m : Measuring packed ls room left spare ks vs) where
    module _ {more : List ℕ} {k v : ℕ} (cut : left ≡ k ∷ v ∷ more) where
      -- where an entry's bytes aren't there, those of all aren't
      pub measuring_short : spare < k + taken v → room < takes ls
      measuring_short l = omega (arith, entry_inside m.along cut, m.enough)

      pub measuring_small : ks + vs + spare + 14 ≤ room + 7 * length ls
      measuring_small = omega (arith, m.most, fewer cut)

      pub measuring_more : (x y less : ℕ) → x ≡ padded_length packed k → y ≡ padded_length packed (taken v)
          → k + taken v ≤ spare → less ≡ spare - k - taken v
          → Measuring packed ls room more less (ks + x) (vs + y)
      measuring_more x y less e f enough is =
          let q = room - less in
          let on : q ≡ room - spare + (k + taken v) = omega (arith, m.enough) in
          record {
            enough = omega (arith, m.enough);
            along = along_more m.along cut q on;
            keys_left_lem =
                λ parts t.
                omega (
                  arith,
                  m.keys_left_lem parts t,
                  ap length (keys_next packed parts m.along cut t q on),
                  length-append (padded packed (take k (drop (room - spare) parts))) (keys packed (rest parts more q)),
                  key_length packed parts m.along cut t q on,
                );
            values_left_lem =
                λ parts t.
                omega (
                  arith,
                  m.values_left_lem parts t,
                  ap length (values_next packed parts m.along cut t q on),
                  length-append (values packed (rest parts more q)) (padded packed (take (taken v) (drop (room - spare + k) parts))),
                  value_length_here packed parts m.along cut t q on,
                );
            most = omega (arith, m.most, fewer cut, padded_most packed k, padded_most packed (taken v));
          }

    pub measuring_done : length left < 2 → (takes ls ≤ room) × Measures packed ls (record { keys = ks; values = vs })
    measuring_done h = (
      omega (arith, m.along.passed, takes_none left h),
      record {
        keys_are = λ parts t. omega (arith, m.keys_left_lem parts t, ap length (keys_none packed parts left (room - spare) h));
        values_are = λ parts t. omega (arith, m.values_left_lem parts t, ap length (values_none packed parts left (room - spare) h));
      },
    )

-- slots by the lengths alone
abbrev pub SlotsPut : Sizes → Bool → List ℕ → ℕ → List ℕ → List ℕ → ℕ → Type 0
SlotsPut z packed ls at before after r = (parts : List ℕ) → takes ls ≤ length parts → Wrote (slots_from z packed 0 0 (entries_in parts ls)) at before after r

-- `put_slots`: what is left of the slots, and room for them
pub record Slotting (z : Sizes) (packed : Bool) (ls : List ℕ) (at : ℕ) (first left : List ℕ) (end koff voff : ℕ) (l : List ℕ) : Type 0 where
  pub p : ℕ
  pub along : Along ls left p
  pub slots : (bytes : List ℕ) → takes ls ≤ length bytes → Writing (slots_from z packed koff voff (rest bytes left p)) end l (slots_from z packed 0 0 (entries_in bytes ls)) at first
  pub most : koff + voff + 7 * length left ≤ p + 7 * length ls
  pub room : end + length left / 2 * slot_width z ≤ length l
  pub reach : end + length left / 2 * slot_width z ≡ at + length ls / 2 * slot_width z
  pub same : length l ≡ length first

one_pair : (n m w : ℕ) → n ≡ m + 2 → n / 2 * w ≡ w + m / 2 * w
one_pair n m w e = ap (λ (k : ℕ). k * w) halves ∙ suc-mul (m / 2) w ∙ swap _ _
  where
    halves : n / 2 ≡ suc (m / 2)
    halves = omega arith

    swap : (a b : ℕ) → a + b ≡ b + a
    swap a b = omega arith

module _ {z : Sizes} {packed : Bool} {ls : List ℕ} {at : ℕ} {first : List ℕ} where
  pub slotting_from : at + length ls / 2 * slot_width z ≤ length first → Slotting z packed ls at first ls at 0 0 first
  slotting_from h = record { p = 0; along = along_start ls 0 refl; slots = λ bytes t. writing_from _ at first at refl; most = omega arith; room = h; reach = refl; same = refl }

  module _ {left : List ℕ} {end koff voff : ℕ} {l : List ℕ} (s : Slotting z packed ls at first left end koff voff l) where
    module _ {more : List ℕ} {k v : ℕ} (cut : left ≡ k ∷ v ∷ more) where
      pub slot_room : end + slot_width z ≤ length l
      slot_room = omega (arith, s.room, one_pair (length left) (length more) (slot_width z) (fewer cut))

      pub slotting_small : koff + voff + (k + taken v) + 14 ≤ takes ls + 7 * length ls
      slotting_small = omega (arith, s.most, fewer cut, entry_inside s.along cut)

      pub slotting_more : (x next o n r : ℕ) (after : List ℕ) → x ≡ padded_length packed k → next ≡ voff + padded_length packed (taken v) → o ≡ offset_for v next → n ≡ taken v
          → Wrote (slot_bytes z koff k o n) end l after r → Slotting z packed ls at first more r (koff + x) next after
      slotting_more x next o n r after e f g b w =
          let q = s.p + (k + taken v) in
          record {
            p = q;
            along = along_more s.along cut q refl;
            slots =
                λ bytes t.
                writing_next _ at first _ _ _ l after end r (s.slots bytes t)
                (slots_next packed bytes s.along cut t q refl z koff voff (koff + x) next (ap (λ (m : ℕ). koff + m) e) f)
                (rw (g, b) at w);
            most = omega (arith, s.most, fewer cut, padded_most packed k, padded_most packed (taken v));
            room = omega (arith, s.room, one_pair (length left) (length more) (slot_width z) (fewer cut), w.next, slot_length z koff k o n, wrote_length w);
            reach = omega (arith, s.reach, one_pair (length left) (length more) (slot_width z) (fewer cut), w.next, slot_length z koff k o n);
            same = wrote_length w ∙ s.same;
          }

    pub slotting_reached : length left < 2 → end ≡ at + length ls / 2 * slot_width z
    slotting_reached h = omega (arith, s.reach, ap (λ (n : ℕ). n * slot_width z) none ∙ zero-mul (slot_width z))
      where
        none : length left / 2 ≡ 0
        none = omega arith

    pub slotting_done : length left < 2 → SlotsPut z packed ls at first l end
    slotting_done h bytes t =
        let w = s.slots bytes t in
        let none = slots_none packed bytes left s.p h z koff voff in
        writing_done _ at first _ l end end w none (omega (arith, s.room, w.long, ap length none, s.same)) (omega (arith, w.long, ap length none))

-- `put_pairs`: what is left of the keys and of the values, put in their places, gives all of them
pub record Pairing (packed : Bool) (parts ls : List ℕ) (at end : ℕ) (before left : List ℕ) (p first last : ℕ) (l : List ℕ) : Type 0 where
  pub along : Along ls left p
  pub same : length l ≡ length before
  pub low : last ≤ end
  pub keys_end : first + length (keys packed (rest parts left p)) ≡ at + length (keys_of packed parts ls)
  pub values_at_lem : last + length (values_of packed parts ls) ≡ end + length (values packed (rest parts left p))
  pub lists :
      written (written l first (keys packed (rest parts left p))) (end - length (values_of packed parts ls)) (values packed (rest parts left p))
      ≡ written (written before at (keys_of packed parts ls)) (end - length (values_of packed parts ls)) (values_of packed parts ls)

module _ {packed : Bool} {parts ls : List ℕ} {at end : ℕ} {before : List ℕ} where
  pub pairing_from : (p : ℕ) → p ≡ 0 → Pairing packed parts ls at end before ls p at end before
  pairing_from p e =
      record {
        along = along_start ls p e;
        same = refl;
        low = omega arith;
        keys_end = ap (λ (n : ℕ). at + length (keys packed (rest parts ls n))) e;
        values_at_lem = sym (ap (λ (n : ℕ). end + length (values packed (rest parts ls n))) e);
        lists = ap (λ (n : ℕ). written (written before at (keys packed (rest parts ls n))) (end - length (values_of packed parts ls)) (values packed (rest parts ls n))) e;
      }

  module _ {left : List ℕ} {p first last : ℕ} {l : List ℕ} (w : Pairing packed parts ls at end before left p first last l) (room : PairsRoom packed parts ls at end (length before)) where
    pub pairing_done : length left < 2 → PairsFill packed parts ls at end before l first
    pairing_done h =
        record {
          is =
              sym (written_none l first)
              ∙ sym (written_none (written l first []) (end - length (values_of packed parts ls)))
              ∙ sym (λ j. written (written l first (keys_none packed parts left p h j)) (end - length (values_of packed parts ls)) (values_none packed parts left p h j))
              ∙ w.lists;
          same = w.same;
          next = omega (arith, w.keys_end, ap length (keys_none packed parts left p h));
        }

    -- one entry
    module _ {more : List ℕ} {k v : ℕ} (cut : left ≡ k ∷ v ∷ more) (there : takes ls ≤ length parts) {n : ℕ} (taken_is : n ≡ taken v) where
      -- where its bytes end
      abbrev q : ℕ
      q = p + k + n

      on' : q ≡ p + (k + taken v)
      on' = omega arith

      inside : p + (k + taken v) ≤ takes ls
      inside = entry_inside w.along cut

      pub key_there : p + k ≤ length parts
      key_there = omega (arith, inside)

      pub value_there : p + k + n ≤ length parts
      value_there = omega (arith, inside)

      module _ {key : List ℕ} (key-is : key ≡ take (k) (drop p parts)) where
        keys_here : keys packed (rest parts left p) ≡ padded packed key ++ keys packed (rest parts more q)
        keys_here = keys_next packed parts w.along cut there q on' ∙ ap (λ (x : List ℕ). padded packed x ++ keys packed (rest parts more q)) (sym key-is)

        keys_long : length (keys packed (rest parts left p)) ≡ padded_length packed (length key) + length (keys packed (rest parts more q))
        keys_long = ap length keys_here ∙ length-append (padded packed key) _ ∙ ap (λ (x : ℕ). x + length (keys packed (rest parts more q))) (padded_length_lem packed key)

        pub key_room : first + padded_length packed (length key) ≤ length l
        key_room = omega (arith, keys_long, w.keys_end, w.same, room.apart, room.inside)

      module _ {value : List ℕ} (value-is : value ≡ take n (drop (p + k) parts)) where
        values_here : values packed (rest parts left p) ≡ values packed (rest parts more q) ++ padded packed value
        values_here =
            values_next packed parts w.along cut there q on'
            ∙ ap (λ (x : List ℕ). values packed (rest parts more q) ++ padded packed x) (sym (value-is ∙ ap (λ (x : ℕ). take x (drop (p + k) parts)) taken_is))

        value_long : length value ≡ n
        value_long = ap length value-is ∙ part_length parts (p + k) n value_there

        values_long : length (values packed (rest parts left p)) ≡ length (values packed (rest parts more q)) + padded_length packed n
        values_long =
            ap length values_here
            ∙ length-append (values packed (rest parts more q)) (padded packed value)
            ∙ ap (λ (x : ℕ). length (values packed (rest parts more q)) + x) (padded_length_lem packed value ∙ ap (padded_length packed) value_long)

        pub value_low : padded_length packed n ≤ last
        value_low = omega (arith, values_long, w.values_at_lem, room.apart)

        module _ {m : ℕ} (m-is : m ≡ padded_length packed n) where
          pub value_room : last - m + padded_length packed (length value) ≤ length l
          value_room = omega (arith, ap (padded_length packed) value_long, value_low, w.low, w.same, room.inside)

          module _ {key : List ℕ} (key-is : key ≡ take (k) (drop p parts)) {l₁ l₂ : List ℕ} {r s : ℕ} (first_put : Wrote (padded packed key) first l l₁ r) (last_put : Wrote (padded packed value) (last - m) l₁ l₂ s) where
            abbrev keys_left : List ℕ
            keys_left = keys packed (rest parts more q)

            abbrev values_left : List ℕ
            values_left = values packed (rest parts more q)

            abbrev values_at : ℕ
            values_at = end - length (values_of packed parts ls)

            at_is : last - m ≡ values_at + length values_left
            at_is = omega (arith, values_long, w.values_at_lem, room.apart)

            key_end : r + length keys_left ≡ at + length (keys_of packed parts ls)
            key_end = omega (arith, first_put.next, padded_length_lem packed key, keys_long key-is, w.keys_end)

            value_end_lem : values_at + length values_left + length (padded packed value) ≤ length l₁
            value_end_lem = omega (arith, at_is, last_put.room)

            pub pairing_more : Pairing packed parts ls at end before more q r (last - m) l₂
            pairing_more =
                record {
                  along = along_more w.along cut q on';
                  same = wrote_length last_put ∙ wrote_length first_put ∙ w.same;
                  low = omega (arith, w.low);
                  keys_end = key_end;
                  values_at_lem = omega (arith, at_is, room.apart);
                  lists =
                      ap (λ (t : List ℕ). written (written t r keys_left) values_at values_left) (last_put.is ∙ ap (λ (x : ℕ). written l₁ x (padded packed value)) at_is)
                      ∙ ap (λ (t : List ℕ). written t values_at values_left) (sym (written_apart l₁ keys_left (padded packed value) r (values_at + length values_left) (omega (arith, key_end, room.apart)) value_end_lem))
                      ∙ written_before (written l₁ r keys_left) values_at values_left (padded packed value) (omega (arith, value_end_lem, length_written l₁ keys_left r (omega (arith, key_end, room.apart, value_end_lem))))
                      ∙ ap (λ (t : List ℕ). written (written t r keys_left) values_at (values_left ++ padded packed value)) first_put.is
                      ∙ ap (λ (x : ℕ). written (written (written l first (padded packed key)) x keys_left) values_at (values_left ++ padded packed value)) first_put.next
                      ∙ ap (λ (t : List ℕ). written t values_at (values_left ++ padded packed value)) (written_twice l first (padded packed key) keys_left (omega (arith, first_put.room)))
                      ∙ sym (λ j. written (written l first (keys_here key-is j)) values_at (values_here j))
                      ∙ w.lists;
                }

pub entries_count : (b ls : List ℕ) → length ls % 2 ≡ 0 → length (entries_in b ls) ≡ length ls / 2
unfolding entries_in
entries_count b [] e = refl
entries_count b (k ∷ []) e = absurd (omega arith)
entries_count b (k ∷ v ∷ ls) e = omega (arith, entries_count (drop (k + taken v) b) ls (omega arith))

-- the table: slots for the entries, and zeros for the others
module _ (n reserved w : ℕ) (h : n ≤ reserved) where
  pub slots_inside : n * w ≤ reserved * w
  slots_inside = mul-le-mul_right w h

  pub slots_left : reserved * w - n * w ≡ (reserved - n) * w
  slots_left = omega (arith, ap (λ (m : ℕ). m * w) split ∙ add-mul n (reserved - n) w)
    where
      split : reserved ≡ n + (reserved - n)
      split = omega arith

-- the table by the lengths alone
abbrev pub TablePut : Sizes → Bool → List ℕ → ℕ → ℕ → List ℕ → List ℕ → ℕ → Type 0
TablePut z packed ls reserved at before after r = (parts : List ℕ) → takes ls ≤ length parts → Wrote (table z packed (entries_in parts ls) reserved) at before after r

pub table_put : (z : Sizes) (packed : Bool) (ls : List ℕ) (reserved at end r zeros : ℕ) (a b c : List ℕ) → length ls % 2 ≡ 0 → length ls / 2 ≤ reserved → end ≡ at + length ls / 2 * slot_width z → zeros ≡ at + reserved * slot_width z - end
    → SlotsPut z packed ls at a b end → Wrote (replicate zeros 0) end b c r → TablePut z packed ls reserved at a c r
unfolding table
table_put z packed ls reserved at end r zeros a b c pairs few e is s w bytes t =
    wrote_then (s bytes t) (rw (is ∙ count) at w)
  where
    same : at + reserved * slot_width z - end ≡ reserved * slot_width z - length ls / 2 * slot_width z
    same = omega (arith, slots_inside (length ls / 2) reserved (slot_width z) few)

    count : at + reserved * slot_width z - end ≡ (reserved - length (entries_in bytes ls)) * slot_width z
    count = same ∙ slots_left (length ls / 2) reserved (slot_width z) few ∙ ap (λ (n : ℕ). (reserved - n) * slot_width z) (sym (entries_count bytes ls pairs))
