-- The audit of the free list of the pool bitmap's ring. Quoted sentences are of document 02.
use Rattle.std.specs.Prelude.{Bool, true, false, List, [], ◌∷◌, ℕ, length}
use Rattle.blocks.specs.Reads.{Reads, done, refuse, ◌>>=◌}
use Rattle.blocks.specs.Blocks.{sum}
use Rattle.blocks.specs.declared.Refusal.TheVariants.{RingIndex}
use Rattle.manager.specs.Manager.{pool_ring_base, pool_indices, free_head, free_tail, free_next}
use Rattle.block_map.specs.BlockMap.{Marked}
use Rattle.audit.specs.Audit.{free_in_use, free_repeated, unless, with_ring}
use Rattle.audit.specs.declared.Audit.{Audit}
use Rattle.free_ring.specs.Ring.{is_in, RingWalk, ring_of}
use Rattle.free_ring.specs.declared.RingEnd.{RingEnd}
use Rattle.free_ring.specs.declared.RingEnd.TheVariants.{Tail, Again, Outside}

-- "the block named is the ring base plus the index": summed for a problem alone
unfoldable pub ring_problem : ℕ → ℕ → ℕ → Marked Audit → Reads (Marked Audit)
ring_problem kind base i s = sum base i >>= λ a. unless false kind a s

-- index i visited, by whether it is in use
unfoldable pub audit_index : ℕ → Bool → ℕ → Marked Audit → Reads (Marked Audit)
audit_index base true i s = ring_problem free_in_use base i s
audit_index base false i s = done s

-- "A bitmap index in use that is also on this list is problem 7": used has all indices of the pool's bitmap
unfoldable pub audit_visited : ℕ → List ℕ → List ℕ → Marked Audit → Reads (Marked Audit)
audit_visited base used [] s = done s
audit_visited base used (i ∷ is) s = audit_index base (is_in i used) i s >>= audit_visited base used is

-- "an index visited twice is problem 8 alone": alone, so 7 isn't asked again; "25, an index on the list is at or above the ring's
-- block count"
unfoldable pub audit_end : ℕ → RingEnd → Marked Audit → Reads (Marked Audit)
audit_end base Tail s = done s
audit_end base (Again i) s = ring_problem free_repeated base i s
audit_end base Outside s = refuse RingIndex

-- "The report gains the number of different indices visited"
unfoldable pub close_ring : ℕ → RingEnd → ℕ → Marked Audit → Reads (Marked Audit)
close_ring base end count s = do
  s₁ ← audit_end base end s
  done (record { map = s₁.map; figures = with_ring count s₁.figures })

-- what ends a walk is met after all that it visited, so that it can be audited after that
unfoldable pub audit_free : ℕ → List ℕ → RingWalk → Marked Audit → Reads (Marked Audit)
audit_free base used w s = audit_visited base used w.visited s >>= close_ring base w.ending (length w.visited)

-- by the free-next table; "in use" are all indices of the pool's bitmap, which were read when the pool was loaded
unfoldable pub audit_table : List ℕ → List ℕ → Marked Audit → Reads (Marked Audit)
audit_table sm next s = pool_indices sm >>= λ used. audit_free (pool_ring_base sm) used (ring_of next (free_head sm) (free_tail sm)) s

-- "the table (for an empty list too) read whole first"
unfoldable pub audit_ring : List ℕ → Marked Audit → Reads (Marked Audit)
audit_ring sm s = free_next sm >>= λ next. audit_table sm next s
