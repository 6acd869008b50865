-- Answers of the audit of the free list, against the definition.
use Rattle.std.specs.Prelude.{List, ℕ, Result}
use Rattle.blocks.specs.Reads.{Reads}
use Rattle.blocks.specs.clauses.Images.{Lent, bytes}
use Rattle.blocks.specs.declared.Container.{Container}
use Rattle.blocks.specs.declared.Refusal.{Refusal}
use Rattle.manager.specs.Manager.{pool_ring_blocks, free_next_at}
use Rattle.manager.specs.clauses.Lists.{values}
use Rattle.block_map.specs.BlockMap.{Marked}
use Rattle.pool.specs.clauses.Load.{indices_on}
use Rattle.pool.specs.declared.PoolPlace.{PoolPlace}
use Rattle.audit.specs.clauses.Answers.{Anywhere}
use Rattle.audit.specs.declared.Audit.{Audit}
use Rattle.free_ring.specs.Ring.{ring_of}
use Rattle.free_ring.specs.FreeRing.{audit_visited, audit_free, audit_table}
use Rattle.free_ring.specs.clauses.Sets.{SetOf}
use Rattle.free_ring.specs.clauses.Walks.{steps_from, table_on}
use Rattle.free_ring.specs.declared.FreeList.{FreeList}

-- so many steps from an index on were audited, whatever list the set of those in use is of
abbrev pub AuditsSteps : Lent → Audit → Result Audit Refusal → ℕ → List ℕ → ℕ → ℕ → Type 0
AuditsSteps used audit r base next steps i = (is : List ℕ) → SetOf (bytes used) is → Anywhere audit r (audit_visited base is (steps_from next steps i))

-- a list beside the indices in use, both where they stand, and a manager's by its table
abbrev pub free_on : Lent → Container → PoolPlace → FreeList → Marked Audit → Reads (Marked Audit)
free_on image c place l = audit_free place.ring (indices_on image c place) (ring_of (table_on image c place.manager l) l.head l.tail)

abbrev pub table_audit : List ℕ → Marked Audit → Reads (Marked Audit)
table_audit sm = audit_table sm (values 2 sm (pool_ring_blocks sm) (free_next_at sm))
