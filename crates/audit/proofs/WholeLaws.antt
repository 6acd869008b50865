-- Laws of a bitmap's bits that cannot be refused: one bit, a byte of them, and those that are left.
use Rattle.std.proofs.Common.{Result, Bool, true, false, List, ◌≡◌, refl, sym, ap, ◌∙◌, ℕ, zero, suc, ◌+◌, ◌-◌, ◌*◌, ◌%◌, ◌^◌, ◌≤◌, ◌<◌, add-zero, zero-add, suc-add, arith, length, get_or, set, lt-ltb}
use Rattle.blocks.specs.declared.Refusal.{Refusal}
use lib.Seq.{set-get_or}
use Rattle.fields.specs.Choice.{pick}
use Rattle.fields.specs.Fields.{bit, bit_at}
use Rattle.blocks.specs.Reads.{run, need, ◌>>=◌}
use Rattle.blocks.specs.Blocks.{sum}
use Rattle.blocks.specs.declared.Container.{Container}
use Rattle.block_map.specs.BlockMap.{Marked, update, marked}
use Rattle.block_map.specs.clauses.Maps.{Kept}
use Rattle.block_map.proofs.Laws.{update_set, kept_same, kept_then, kept_update}
use Rattle.pool.proofs.Laws.{bit_read_of, bit_none}
use Rattle.audit.specs.Audit.{mark_set, mark_bit, mark_from}
use Rattle.report.specs.clauses.Steps.{Stepped}
use Rattle.audit.specs.clauses.Bits.{bit_marked, bits_marked, ones_in}
use Rattle.audit.proofs.Laws.{none_left}
use Rattle.audit.proofs.OnesLaws.{ones_few}

-- a bit's block written, whether or not the bit is set
bit_written : (on : Bool) (a : ℕ) (s : Marked ℕ) → (bit_marked on a s).map ≡ set s.map a (pick on (marked (get_or s.map a 0)) (get_or s.map a 0))
unfolding bit_marked
bit_written true a s = update_set marked a s.map
bit_written false a s = sym (set-get_or s.map a 0)

-- the map is the same whatever was counted
bit_map : (on : Bool) (a : ℕ) (s t : Marked ℕ) → s.map ≡ t.map → (bit_marked on a s).map ≡ (bit_marked on a t).map
unfolding bit_marked
bit_map true a s t e = ap (update marked a) e
bit_map false a s t e = e

bit_kept : (count : ℕ) (on : Bool) (a : ℕ) (s : Marked ℕ) → a < count → Kept count s.map (bit_marked on a s).map
unfolding bit_marked
bit_kept count true a s h = kept_update count marked a s.map h
bit_kept count false a s h = kept_same count s.map

bit_few : (on : Bool) (a : ℕ) (s : Marked ℕ) → (bit_marked on a s).figures ≤ s.figures + 1
unfolding bit_marked
bit_few true a s = omega arith
bit_few false a s = omega arith

bit_counted : (on : Bool) (a : ℕ) (s : Marked ℕ) → (bit_marked on a s).figures + pick on 1 0 ≡ s.figures + 1
unfolding bit_marked
bit_counted true a s = refl
bit_counted false a s = add-zero _

module _ (bits : List ℕ) (start : ℕ) where
  pub bits_over : (n i at : ℕ) (s : Marked ℕ) → n ≤ i → bits_marked bits start (n - i) at s ≡ s
  unfolding bits_marked
  bits_over n i at s h = rw (none_left n i h) refl

  -- so many bits, and those after them
  bits_then : (m left i : ℕ) (s : Marked ℕ) → bits_marked bits start (m + left) i s ≡ bits_marked bits start left (i + m) (bits_marked bits start m i s)
  unfolding bits_marked
  bits_then zero left i s = rw (zero-add, add-zero) refl
  bits_then (suc m) left i s = let next : i + suc m ≡ i + 1 + m = omega arith in rw (suc-add, next) (bits_then m left (i + 1) _)

  bits_few : (m i : ℕ) (s : Marked ℕ) → (bits_marked bits start m i s).figures ≤ s.figures + m
  unfolding bits_marked
  bits_few zero i s = omega arith
  bits_few (suc m) i s = omega (arith, bits_few m (i + 1) (bit_marked (bit_at bits i) (start + i) s), bit_few (bit_at bits i) (start + i) s)

  bits_kept : (count m i : ℕ) (s : Marked ℕ) → m ≤ count - (start + i) → Kept count s.map (bits_marked bits start m i s).map
  unfolding bits_marked
  bits_kept count zero i s h = kept_same count s.map
  bits_kept count (suc m) i s h = kept_then count _ _ _ (bit_kept count (bit_at bits i) (start + i) s (omega arith)) (bits_kept count m (i + 1) _ (omega arith))

  -- bits in a byte 0
  bits_none : (j : ℕ) → get_or bits j 0 ≡ 0 → (m i : ℕ) (map : List ℕ) (zeros : ℕ) → j * 8 ≤ i → i + m ≤ j * 8 + 8
      → bits_marked bits start m i (record { map = map; figures = zeros }) ≡ record { map = map; figures = zeros + m }
  unfolding bits_marked bit_marked
  bits_none j z zero i map zeros low high = rw add-zero refl
  bits_none j z (suc m) i map zeros low high =
      let all : zeros + suc m ≡ zeros + 1 + m = omega arith in rw (bit_none bits j z i low (omega arith), all) (bits_none j z m (i + 1) map (zeros + 1) (omega arith) (omega arith))

  bits_map : (m i : ℕ) (s t : Marked ℕ) → s.map ≡ t.map → (bits_marked bits start m i s).map ≡ (bits_marked bits start m i t).map
  unfolding bits_marked
  bits_map zero i s t e = e
  bits_map (suc m) i s t e = bits_map m (i + 1) _ _ (bit_map (bit_at bits i) (start + i) s t e)

  bits_last : (m i : ℕ) (s : Marked ℕ) → bits_marked bits start (suc m) i s ≡ bit_marked (bit_at bits (i + m)) (start + (i + m)) (bits_marked bits start m i s)
  unfolding bits_marked
  bits_last m i s = let one : suc m ≡ m + 1 = omega arith in ap (λ (n : ℕ). bits_marked bits start n i s) one ∙ bits_then m 1 i s

  -- of a byte's lowest m bits, those that are not set are counted
  bits_counted : (j m : ℕ) (s : Marked ℕ) → m ≤ 8 → (bits_marked bits start m (8 * j) s).figures + ones_in m (get_or bits j 0) ≡ s.figures + m
  unfolding ones_in
  bits_counted j zero s h = ap (λ (t : Marked ℕ). t.figures + 0) (bits_over 0 0 (8 * j) s (omega arith))
  bits_counted j (suc m) s h =
      let there : bit m (get_or bits j 0) ≡ bit_at bits (8 * j + m) = bit_read_of bits j (get_or bits j 0) (8 * j + m) m (bit m (get_or bits j 0)) refl (omega arith) (omega arith) refl in
      rw (bits_last m (8 * j) s, ← there) (omega (arith, bits_counted j m s (omega arith), bit_counted (bit m (get_or bits j 0)) (start + (8 * j + m)) (bits_marked bits start m (8 * j) s)))

  -- one bit of byte j, as the code writes its block
  pub byte_more : (j k : ℕ) (map : List ℕ) (a b y : ℕ) (on : Bool) (whole : List ℕ) → k < 8 → b ≡ get_or bits j 0 → on ≡ bit (k % 8) b → a ≡ start + (8 * j + k) → y ≡ pick on (marked (get_or map a 0)) (get_or map a 0)
      → (bits_marked bits start (8 - k) (8 * j + k) (record { map = map; figures = 0 })).map ≡ whole → (bits_marked bits start (8 - (k + 1)) (8 * j + (k + 1)) (record { map = set map a y; figures = 0 })).map ≡ whole
  unfolding bits_marked
  byte_more j k map a b y on whole h read is-on is-a is_y left =
      let one : 8 - k ≡ suc (8 - (k + 1)) = omega arith in
      let next : 8 * j + (k + 1) ≡ 8 * j + k + 1 = omega arith in
      let there : on ≡ bit_at bits (8 * j + k) = bit_read_of bits j b (8 * j + k) (k % 8) on read (omega arith) (omega arith) is-on in
      let written : set map a y ≡ (bit_marked (bit_at bits (8 * j + k)) (start + (8 * j + k)) (record { map = map; figures = 0 })).map = rw (is_y, is-a, there) (sym (bit_written (bit_at bits (8 * j + k)) (start + (8 * j + k)) (record { map = map; figures = 0 }))) in
      rw next (bits_map (8 - (k + 1)) (8 * j + k + 1) _ _ written ∙ rw one at left)

  -- byte j, by its blocks and by how many of its bits are set
  pub byte_marked : (j b ones : ℕ) (map after : List ℕ) (zeros r : ℕ) → b ≡ get_or bits j 0 → after ≡ (bits_marked bits start 8 (8 * j) (record { map = map; figures = 0 })).map → ones ≡ ones_in 8 b → r ≡ zeros + (8 - ones)
      → record { map = after; figures = r } ≡ bits_marked bits start 8 (8 * j) (record { map = map; figures = zeros })
  byte_marked j b ones map after zeros r read e is-ones counted = λ i. record { map = blocks i; figures = count i }
    where
      blocks : after ≡ (bits_marked bits start 8 (8 * j) (record { map = map; figures = zeros })).map
      blocks = e ∙ bits_map 8 (8 * j) _ _ refl

      count : r ≡ (bits_marked bits start 8 (8 * j) (record { map = map; figures = zeros })).figures
      count = omega (arith, bits_counted j 8 (record { map = map; figures = zeros }) (omega arith), rw read at is-ones, counted, ones_few 8 (get_or bits j 0))

  pub whole_few : (m : ℕ) (map after : List ℕ) (r : ℕ) → record { map = after; figures = r } ≡ bits_marked bits start m 0 (record { map = map; figures = 0 }) → r ≤ m
  whole_few m map after r e = omega (arith, ap (λ (s : Marked ℕ). s.figures) e, bits_few m 0 (record { map = map; figures = 0 }))

  -- byte j of n, by its eight bits
  module _ (n j : ℕ) (map after : List ℕ) (zeros r : ℕ) (h : j < n) (inside : 8 * n ≤ length map - start) (e : record { map = after; figures = r } ≡ bits_marked bits start 8 (8 * j) (record { map = map; figures = zeros })) where
    pub bytes_few : zeros ≤ 8 * j → r ≤ 8 * (j + 1)
    bytes_few few = omega (arith, ap (λ (s : Marked ℕ). s.figures) e, bits_few 8 (8 * j) (record { map = map; figures = zeros }))

    pub bytes_long : length after ≡ length map
    bytes_long = ap (λ (s : Marked ℕ). length s.map) e ∙ (bits_kept (length map) 8 (8 * j) (record { map = map; figures = zeros }) (omega arith)).long

    pub bytes_more : (whole : Marked ℕ) → bits_marked bits start (8 * n - 8 * j) (8 * j) (record { map = map; figures = zeros }) ≡ whole → bits_marked bits start (8 * n - 8 * (j + 1)) (8 * (j + 1)) (record { map = after; figures = r }) ≡ whole
    bytes_more whole left =
        let all : 8 * n - 8 * j ≡ 8 + (8 * n - (8 * j + 8)) = omega arith in
        let next : 8 * (j + 1) ≡ 8 * j + 8 = omega arith in rw (next, e) (sym (bits_then 8 (8 * n - (8 * j + 8)) (8 * j) _) ∙ rw all at left)

  -- a byte 0
  pub byte_none : (j : ℕ) (map : List ℕ) (zeros : ℕ) → get_or bits j 0 ≡ 0 → record { map = map; figures = zeros + 8 } ≡ bits_marked bits start 8 (8 * j) (record { map = map; figures = zeros })
  byte_none j map zeros z = sym (bits_none j z 8 (8 * j) map zeros (omega arith) (omega arith))

-- a bit of the container's, as the definition takes it
module _ (c : Container) (bits : List ℕ) (start : ℕ) where
  mark_one : (left i : ℕ) (s : Marked ℕ) → start + i < c.count → c.count < 2 ^ 64 → mark_from c bits start (suc left) i s ≡ mark_from c bits start left (i + 1) (bit_marked (bit_at bits i) (start + i) s)
  unfolding mark_from mark_bit mark_set bit_marked sum need ◌>>=◌
  mark_one left i s h fits = go (bit_at bits i) refl
    where
      go : (t : Bool) → bit_at bits i ≡ t → mark_from c bits start (suc left) i s ≡ mark_from c bits start left (i + 1) (bit_marked (bit_at bits i) (start + i) s)
      go true e = rw (e, lt-ltb (start + i) (2 ^ 64) (omega arith), lt-ltb (start + i) c.count h) refl
      go false e = rw e refl

  mark_then : (m left i : ℕ) (s : Marked ℕ) → m ≤ c.count - (start + i) → c.count < 2 ^ 64 → mark_from c bits start (m + left) i s ≡ mark_from c bits start left (i + m) (bits_marked bits start m i s)
  unfolding bits_marked
  mark_then zero left i s h fits = rw (zero-add, add-zero) refl
  mark_then (suc m) left i s h fits =
      let next : i + suc m ≡ i + 1 + m = omega arith in
      rw (suc-add, next) (mark_one (m + left) i s (omega arith) fits ∙ mark_then m left (i + 1) _ (omega arith) fits)

  -- the bits of so many blocks, and then those that are left
  pub marked_then : {f : ℕ → List ℕ} {r : Result ℕ Refusal} {after : List ℕ} (blocks m : ℕ) (map between : List ℕ) (zeros : ℕ) → m ≤ blocks → m ≤ c.count - start → c.count < 2 ^ 64
      → record { map = between; figures = zeros } ≡ bits_marked bits start m 0 (record { map = map; figures = 0 })
      → Stepped f c.count r between after (mark_from c bits start (blocks - m) m (record { map = between; figures = zeros })) → Stepped f c.count r map after (mark_from c bits start blocks 0 (record { map = map; figures = 0 }))
  marked_then blocks m map between zeros h inside fits e k =
      record {
        goes = k.goes ∙ ap (run _) whole;
        kept = kept_then _ _ _ _ (rw (← ap (λ (s : Marked ℕ). s.map) e) at (bits_kept bits start c.count m 0 (record { map = map; figures = 0 }) (omega arith))) k.kept;
      }
    where
      all : blocks ≡ m + (blocks - m)
      all = omega arith

      whole : mark_from c bits start (blocks - m) m (record { map = between; figures = zeros }) ≡ mark_from c bits start blocks 0 (record { map = map; figures = 0 })
      whole = rw e (sym (ap (λ (n : ℕ). mark_from c bits start n 0 (record { map = map; figures = 0 })) all ∙ mark_then m (blocks - m) 0 (record { map = map; figures = 0 }) (omega arith) fits ∙ rw zero-add refl))
