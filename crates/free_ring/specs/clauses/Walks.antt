-- The walk as the code takes it: the table is read in place, and what was visited is so many steps from the head.
use Rattle.std.specs.Prelude.{◌≡◌, List, [], ◌∷◌, ℕ, zero, suc, ◌<◌, ◌^◌, length, get_or}
use Rattle.blocks.specs.clauses.Images.{Lent}
use Rattle.blocks.specs.declared.Container.{Container}
use Rattle.manager.specs.Manager.{pool_ring_blocks, free_head, free_tail, free_next_at}
use Rattle.manager.specs.clauses.Lists.{values}
use Rattle.manager.specs.clauses.Place.{manager_on}
use Rattle.manager.specs.declared.Manager.{Manager}
use Rattle.free_ring.specs.Ring.{RingWalk, ended, ring_from}
use Rattle.free_ring.specs.declared.FreeList.{FreeList}
use Rattle.free_ring.specs.declared.Walked.{Walked}

-- the list that a manager's fields name, and its table
abbrev pub free_list_in : List ℕ → FreeList
free_list_in sm = record { head = free_head sm; tail = free_tail sm; table = free_next_at sm; blocks = pool_ring_blocks sm }

abbrev pub table_on : Lent → Container → Manager → FreeList → List ℕ
table_on image c m l = values 2 (manager_on image c m) l.blocks l.table

-- an entry of the table, or 0 past its end; an index of 16 bits
pub record Entry (next : List ℕ) (i r : ℕ) : Type 0 where
  pub is : r ≡ get_or next i 0
  pub fits : r < 2 ^ 16

-- the first k indices from i on, whatever they are
unfoldable pub steps_from : List ℕ → ℕ → ℕ → List ℕ
steps_from next zero i = []
steps_from next (suc k) i = i ∷ steps_from next k (get_or next i 0)

-- what the code's walk tells of the definition's: its indices are as many steps from the head
unfoldable pub walk_of : List ℕ → ℕ → Walked → RingWalk
walk_of next head r = ended (steps_from next r.count head) r.ending

abbrev pub Walks : List ℕ → ℕ → ℕ → Walked → Type 0
Walks next head tail r = walk_of next head r ≡ ring_from next tail (suc (length next)) head []
