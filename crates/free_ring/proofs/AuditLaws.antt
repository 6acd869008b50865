-- Laws of the free list's audit: the indices visited, the end of the walk, the whole.
use Rattle.std.proofs.Common.{Bool, List, ◌≡◌, refl, sym, ap, ◌∙◌, ℕ, ◌+◌, ◌-◌, ◌^◌, ◌≤◌, ◌<◌, Result, Ok, Err, IsErrAnd, get_or, ne_eqb}
use Rattle.fields.specs.Fields.{bit_at}
use Rattle.blocks.specs.Reads.{done, run, ◌>>=◌}
use Rattle.blocks.specs.declared.Refusal.{Refusal}
use Rattle.blocks.proofs.Laws.{then_given}
use Rattle.block_map.specs.BlockMap.{Marked}
use Rattle.report.proofs.StepLaws.{stays_ok, stepped_ok, stepped_run, step_stop}
use Rattle.audit.specs.Audit.{with_ring}
use Rattle.audit.specs.clauses.Answers.{audited, Anywhere}
use Rattle.audit.specs.declared.Audit.{Audit}
use Rattle.audit.proofs.Laws.{none_left, one_less}
use Rattle.free_ring.specs.Ring.{is_in, no_head, ring_of}
use Rattle.free_ring.specs.FreeRing.{audit_index, audit_visited, audit_end, close_ring, audit_free}
use Rattle.free_ring.specs.clauses.Sets.{SetOf}
use Rattle.free_ring.specs.clauses.Walks.{Entry, steps_from, walk_of, Walks}
use Rattle.free_ring.specs.declared.Walked.{Walked}
use Rattle.free_ring.proofs.RingLaws.{steps_length}

-- the steps from index i on, after n of so many
module _ (next is : List ℕ) (base steps n i : ℕ) (s : Marked Audit) where
  visited_done : steps ≤ n → audit_visited base is (steps_from next (steps - n) i) s ≡ done s
  unfolding audit_visited steps_from
  visited_done h = rw (none_left steps n h) refl

  visited_more : n < steps → audit_visited base is (steps_from next (steps - n) i) s ≡ audit_index base (is_in i is) i s >>= audit_visited base is (steps_from next (steps - (n + 1)) (get_or next i 0))
  unfolding audit_visited steps_from
  visited_more h = rw (one_less steps n h) refl

-- the audit at index i after n of so many: what is left gives the whole, whatever list the set is of
pub record Visiting (next used : List ℕ) (base head steps : ℕ) (first found : Audit) (i n : ℕ) : Type 0 where
  pub fits : i < 2 ^ 16
  pub goes : (is : List ℕ) → SetOf used is → (f : ℕ → List ℕ) (map : List ℕ)
      → run f (audit_visited base is (steps_from next (steps - n) i) (audited map found)) ≡ run f (audit_visited base is (steps_from next steps head) (audited map first))

module _ (next used : List ℕ) (base head steps : ℕ) (first found : Audit) (i n : ℕ) (v : Visiting next used base head steps first found i n) where
  pub visited_all : steps ≤ n → (is : List ℕ) → SetOf used is → Anywhere first (Ok found) (audit_visited base is (steps_from next steps head))
  unfolding run
  visited_all h is s f count map = stays_ok (λ x. x) count map found (sym (v.goes is s f map) ∙ ap (run f) (visited_done next is base steps n i (audited map found) h))

  module _ (more : n < steps) (in_use : Bool) (asked : in_use ≡ bit_at used i) (r : Result Audit Refusal) (l : Anywhere found r (audit_index base in_use i)) where
    one : (is : List ℕ) → SetOf used is → Anywhere found r (audit_index base (is_in i is) i)
    one is s = rw (← s.same i v.fits, ← asked) l

    pub visiting_stop : (why : Refusal) → r ≡ Err why → (ended : Result Audit Refusal) → IsErrAnd ended (λ y. y ≡ why) → (is : List ℕ) → SetOf used is → Anywhere first ended (audit_visited base is (steps_from next steps head))
    visiting_stop why e ended passed is s f count map = stepped_run (step_stop (one is s f count map) (λ x. x) _ why e ended passed) (sym (ap (run f) (visited_more next is base steps n i (audited map found) more)) ∙ v.goes is s f map)

    pub visiting_on : (on : Audit) (j : ℕ) → r ≡ Ok on → Entry next i j → Visiting next used base head steps first on j (n + 1)
    visiting_on on j e y = record {
      fits = y.fits;
      goes = λ is s f map. rw y.is (
          sym (then_given f _ (audit_visited base is (steps_from next (steps - (n + 1)) (get_or next i 0))) _ (stepped_ok (one is s f 0 map) on e))
          ∙ sym (ap (run f) (visited_more next is base steps n i (audited map found) more)) ∙ v.goes is s f map
          );
    }

-- an empty list, and one that was walked along
module _ (used next : List ℕ) (base head tail : ℕ) (s : Marked Audit) where
  pub none_free : head ≡ no_head → audit_free base used (ring_of next head tail) s ≡ done (record { map = s.map; figures = with_ring 0 s.figures })
  unfolding audit_free ring_of audit_visited close_ring audit_end ◌>>=◌
  none_free e = rw e refl

  pub walked_free : (w : Walked) → (head ≡ no_head → ⊥) → Walks next head tail w → audit_visited base used (steps_from next w.count head) s >>= close_ring base w.ending w.count ≡ audit_free base used (ring_of next head tail) s
  unfolding audit_free ring_of walk_of
  walked_free w away walks = rw (ne_eqb _ _ away, ← walks, steps_length next w.count head) refl
