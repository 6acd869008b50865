-- Laws of the code's loops: along the free list, and over the indices in use.
use Rattle.std.proofs.Common.{◌≡◌, refl, sym, ap, ◌∙◌, Bool, true, false, List, [], ◌∷◌, ◌++◌, ℕ, suc, ◌+◌, ◌-◌, ◌*◌, ◌^◌, ◌≤◌, ◌<◌, add-one, arith, length, replicate}
use lib.ListN.{get_or-eq_default}
use Rattle.manager.proofs.ListLaws.{values_length, values_at}
use Rattle.fields.specs.Fields.{bit_at}
use Rattle.fields.specs.clauses.Numbers.{NumberAt}
use Rattle.manager.specs.clauses.Lists.{values}
use Rattle.free_ring.specs.Ring.{is_in, ended, ring_from}
use Rattle.free_ring.specs.clauses.Walks.{Entry, steps_from, walk_of, Walks}
use Rattle.free_ring.specs.clauses.Sets.{set_bytes, Put, SetOf}
use Rattle.free_ring.specs.declared.RingEnd.TheVariants.{Tail, Again, Outside}
use Rattle.free_ring.proofs.RingLaws.{ring_outside, ring_again, ring_tail, ring_on, unseen, unseen_none, unseen_less, step_of, step_next, steps_more}
use Rattle.free_ring.proofs.SetLaws.{clear_set, set_more, values_more}

-- an entry of the table of n
module _ (sm : List ℕ) (n at i : ℕ) where
  pub entry_past_table : n ≤ i → Entry (values 2 sm n at) i 0
  entry_past_table h = record { is = sym (get_or-eq_default (values 2 sm n at) 0 (rw values_length h)); fits = omega arith }

  pub entry_of_table : (r : ℕ) → i < n → NumberAt 2 sm (at + 2 * i) r → Entry (values 2 sm n at) i r
  entry_of_table r h y = record { is = y.is ∙ sym (values_at 2 sm n at i h); fits = y.fits }

-- the walk at index i, after k: those are the set, each was one less unseen, and what is left gives the whole
pub record Walking (next : List ℕ) (n head tail : ℕ) (seen : List ℕ) (i k : ℕ) : Type 0 where
  pub size : length next ≡ n
  pub here : i ≡ step_of next k head
  pub fits : i < 2 ^ 16
  pub set : SetOf seen (steps_from next k head)
  pub left : unseen (length next) (steps_from next k head) + k ≡ length next
  pub whole : ring_from next tail (suc (length next - k)) i (steps_from next k head) ≡ ring_from next tail (suc (length next)) head []

pub walking : (next : List ℕ) (n head tail bytes : ℕ) → length next ≡ n → bytes ≡ set_bytes → head < 2 ^ 16 → Walking next n head tail (replicate bytes 0) head 0
unfolding step_of steps_from
walking next n head tail bytes z e h = record { size = z; here = refl; fits = h; set = clear_set bytes e; left = omega (arith, unseen_none (length next)); whole = rw none refl }
  where
    none : length next - 0 ≡ length next
    none = omega arith

module _ (next : List ℕ) (n head tail : ℕ) (seen : List ℕ) (i k : ℕ) (w : Walking next n head tail seen i k) where
  pub walked_outside : n ≤ i → Walks next head tail (record { ending = Outside; count = k })
  unfolding walk_of
  walked_outside h = sym (ring_outside _ _ _ _ _ (omega (arith, w.size))) ∙ w.whole

  -- what the set says of i
  module _ (r : Bool) (asked : r ≡ bit_at seen i) (below : i < n) where
    inside : i < length next
    inside = omega (arith, w.size)

    was_in : is_in i (steps_from next k head) ≡ r
    was_in = sym (w.set.same i w.fits) ∙ sym asked

    pub walked_again : r ≡ true → Walks next head tail (record { ending = Again i; count = k })
    unfolding walk_of
    walked_again t = sym (ring_again _ _ _ _ _ inside (was_in ∙ t)) ∙ w.whole

    -- one step more
    module _ (t : r ≡ false) where
      steps : steps_from next (k + 1) head ≡ steps_from next k head ++ (i ∷ [])
      steps = rw (add-one k, w.here) (steps_more next k head)

      pub room : k < n
      room = omega (arith, unseen_less i (steps_from next k head) (length next) inside (was_in ∙ t), w.left, w.size)

      pub walked_tail : i ≡ tail → Walks next head tail (record { ending = Tail; count = k + 1 })
      unfolding walk_of
      walked_tail e = ap (λ l. ended l Tail) steps ∙ sym (ring_tail _ _ _ _ _ inside (was_in ∙ t) e) ∙ w.whole

      pub walking_on : (after : List ℕ) (j : ℕ) → (i ≡ tail → ⊥) → Put seen i after → Entry next i j → Walking next n head tail after j (k + 1)
      walking_on after j off p y = record { size = w.size; here = at; fits = y.fits; set = rw steps (set_more _ _ _ _ w.set p); left = rw steps (omega (arith, unseen_less i (steps_from next k head) (length next) inside (was_in ∙ t), w.left)); whole = rw (steps, ← fuel, y.is) (sym (ring_on _ _ _ _ _ inside (was_in ∙ t) off) ∙ w.whole) }
        where
          at : j ≡ step_of next (k + 1) head
          at = rw (add-one k, step_next next k head, ← w.here) y.is

          fuel : length next - k ≡ suc (length next - (k + 1))
          fuel = omega (arith, room, w.size)

-- the set of a list's first k values: none, and one more
module _ (sm : List ℕ) (at : ℕ) (bits : List ℕ) where
  pub filled_none : SetOf bits [] → SetOf bits (values 2 sm 0 at)
  unfolding values
  filled_none s = s

  pub filled_more : (k i : ℕ) (after : List ℕ) → SetOf bits (values 2 sm k at) → NumberAt 2 sm (at + 2 * k) i → Put bits i after → SetOf after (values 2 sm (k + 1) at)
  filled_more k i after s n p = rw (add-one k, values_more 2 sm k at, ← n.is) (set_more _ _ _ _ s p)
