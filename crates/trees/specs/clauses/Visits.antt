-- One scan for all trees: what it does at an entry, and how the tree names a child.
use Rattle.std.specs.Prelude.{Bool, true, false, ◌≡◌, List, ℕ, ◌-◌}
use Rattle.blocks.specs.Reads.{Reads, given, run, no_blocks, ◌>>=◌}
use Rattle.blocks.specs.clauses.Images.{Lent, bytes}
use Rattle.nodes.specs.Node.{Entry, read_node}
use Rattle.nodes.specs.Scan.{pointer_past, one_below}
use Rattle.nodes.specs.declared.Description.{Description}
use Rattle.checkpoint.specs.clauses.InPlace.{mapped_in}
use Rattle.checkpoint.specs.declared.Checkpoint.{Checkpoint}
use Rattle.block_map.specs.BlockMap.{Marked}
use Rattle.report.specs.declared.Cursor.{Cursor}
use Rattle.report.specs.declared.OverlapLog.{OverlapLog}
use Rattle.pool.specs.declared.PoolPlace.{PoolPlace}
use Rattle.queue.specs.Queue.{run_of, node_by}
use Rattle.audit.specs.Audit.{audit_queued}
use Rattle.audit.specs.clauses.Answers.{pool_at}
use Rattle.audit.specs.clauses.Unlogged.{unlogged_run}
use Rattle.audit.specs.declared.Audit.{Audit}
use Rattle.claims.specs.Claims.{claim_mapping, claim_queued}
use Rattle.claims.specs.clauses.Unlogged.{unlogged_mapping, unlogged_queued}

-- what a scan does at an entry, on the image whose block n is f n; whether nothing is logged of it; the node that a child's pointer names; and whether the tree was walked before
pub record Plan (F : Type 0) : Type 0 where
  pub visit : (ℕ → List ℕ) → Marked F → Entry → Reads (Marked F)
  pub unlogged : (ℕ → List ℕ) → Entry → List ℕ → Bool
  pub child : (ℕ → List ℕ) → ℕ → Reads (List ℕ)
  pub walked : Bool

-- a child that was read before is the block that its pointer names
abbrev pub AsRead : {F : Type 0} → Plan F → Type 0
AsRead p = (f : ℕ → List ℕ) (n : ℕ) (m : List ℕ) → p.walked ≡ true → run f (p.child f n) ≡ given m → m ≡ f n

-- a queue's child is named by its id, which the map turns into an address, the object map's by its address
abbrev pub queue_child : Checkpoint → (ℕ → List ℕ) → ℕ → Reads (List ℕ)
queue_child k f n = node_by k.container (mapped_in f k (record { 0 = n }))

-- the scan of a queue
abbrev pub IsQueue : {F : Type 0} → Checkpoint → Plan F → Type 0
IsQueue k p = (p.child ≡ queue_child k) × (p.walked ≡ false)

abbrev pub pool_queue_plan : PoolPlace → Checkpoint → Plan Audit
pool_queue_plan place k = record {
  visit = λ f. audit_queued k.container (pool_at k.container place f);
  unlogged = λ f e map. unlogged_run k.container (pool_at k.container place f) map (run no_blocks (run_of e));
  child = queue_child k;
  walked = false;
}

abbrev pub main_queue_plan : Checkpoint → Plan OverlapLog
main_queue_plan k = record {
  visit = λ f. claim_queued k.container;
  unlogged = λ f. unlogged_queued k.container;
  child = queue_child k;
  walked = false;
}

abbrev pub mappings_plan : Checkpoint → Plan OverlapLog
mappings_plan k = record {
  visit = λ f. claim_mapping k.container;
  unlogged = λ f. unlogged_mapping k.container;
  child = λ f n. read_node k.container (record { 0 = n });
  walked = true;
}

-- the child that entry i of an index node of a level names, of which left come after it
unfoldable pub child_below : Description → (ℕ → Reads (List ℕ)) → ℕ → List ℕ → ℕ → ℕ → Reads (List ℕ)
child_below d child level b left i = do
  a ← pointer_past d b left i
  n ← child a
  one_below level n

-- the child at a cursor along the entries of an index node
abbrev pub child_of : {F : Type 0} → Plan F → Description → ℕ → Lent → Cursor → (ℕ → List ℕ) → Reads (List ℕ)
child_of p d level node at f = child_below d (p.child f) level (bytes node) (at.left - 1) at.next
