-- Laws of queues, by what the map has for their roots, and of the object map's mappings.
use Rattle.std.specs.Prelude.{None, Option, Some}
use mathlib.Core.Path.{◌≡◌, refl}
use mathlib.Core.List.{List}
use Prim.Native.Nat.{ℕ}
use Rattle.blocks.specs.Reads.{Reads, given, refused, run}
use Rattle.blocks.specs.declared.Container.{Container}
use Rattle.blocks.specs.declared.ObjectId.{ObjectId}
use Rattle.blocks.specs.declared.Refusal.{Refusal}
use Rattle.blocks.proofs.Laws.{then_given, then_refused}
use Rattle.nodes.specs.Node.{Entry, read_node}
use Rattle.nodes.specs.Scan.{scan}
use Rattle.nodes.specs.declared.Description.{Description}
use Rattle.nodes.proofs.Laws.{node_given}
use Rattle.checkpoint.specs.declared.Checkpoint.{Checkpoint}
use Rattle.checkpoint.specs.declared.Mapping.{Mapping}
use Rattle.block_map.specs.BlockMap.{Marked}
use Rattle.report.specs.declared.OverlapLog.{OverlapLog}
use Rattle.queue.specs.Queue.{scan_queue, queue_from, queue}
use Rattle.claims.specs.Claims.{claim_mappings}
use Rattle.trees.specs.clauses.Visits.{mappings_plan}

module _ {S : Type 0} (f : ℕ → List ℕ) (c : Container) (mapped : ObjectId → Option Mapping) (visit : S → Entry → Reads S) (s : S) (root : ObjectId) (m : Option Mapping) (is : m ≡ mapped root) where
  pub queue_skipped : m ≡ None → run f (queue c mapped visit root s) ≡ given s
  unfolding run queue queue_from
  queue_skipped e = rw (← is) (rw e refl)

  module _ (x : Mapping) (e : m ≡ Some x) where
    pub queue_unread : (r : Refusal) → run f (read_node c x.address) ≡ refused r → run f (queue c mapped visit root s) ≡ refused r
    unfolding queue queue_from
    queue_unread r q = rw (← is) (rw e (then_refused f _ _ r q))

    pub queue_read : (b : List ℕ) → run f (read_node c x.address) ≡ given b → run f (queue c mapped visit root s) ≡ run f (scan_queue c mapped visit (f x.address.0) s)
    unfolding queue queue_from
    queue_read b q = rw (← is) (rw (e, ← node_given f c x.address b q) (then_given f _ _ b q))

-- the scan of an object map's mappings is the definition's
pub mappings_claimed : (f : ℕ → List ℕ) (k : Checkpoint) (d : Description) (b : List ℕ) (s : Marked OverlapLog) → scan ((mappings_plan k).visit f) d ((mappings_plan k).child f) b s ≡ claim_mappings k.container d b s
unfolding claim_mappings
mappings_claimed f k d b s = refl
