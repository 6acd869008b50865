-- The whole pass. A reader may start here and go down.
use Rattle.std.specs.Prelude.{Option}
use Rattle.checkpoint.specs.declared.Mapping.{Mapping}
use Rattle.std.specs.Prelude.{List, ℕ, leb, length, take}
use Rattle.fields.specs.Choice.{pick}
use Rattle.blocks.specs.Reads.{Reads, Outcome, given, refused, run, no_blocks, done, ◌>>=◌}
use Rattle.blocks.specs.Blocks.{block_of}
use Rattle.blocks.specs.Refusals.{number_of}
use Rattle.blocks.specs.declared.Address.{Address}
use Rattle.blocks.specs.declared.Container.{Container}
use Rattle.blocks.specs.declared.ObjectId.{ObjectId}
use Rattle.nodes.specs.Node.{read_node, describe}
use Rattle.nodes.specs.Walk.{walk}
use Rattle.nodes.specs.ObjectMap.{load_object_map}
use Rattle.nodes.specs.declared.Description.{Description}
use Rattle.checkpoint.specs.Superblock.{descriptor_base, descriptor_blocks, data_base, data_blocks, object_map_address, without_top_bit}
use Rattle.checkpoint.specs.Geometry.{geometry, least_size}
use Rattle.checkpoint.specs.Map.{lookup}
use Rattle.checkpoint.specs.Checkpoint.{Taken, take_superblock, admit}
use Rattle.checkpoint.specs.declared.Geometry.{Geometry}
use Rattle.manager.specs.Manager.{manager, device_free, pool_base, pool_blocks, pool_ring_base, pool_ring_blocks, pool_queue, main_queue}
use Rattle.block_map.specs.BlockMap.{Marked, is_used, cleared, count_in}
use Rattle.report.specs.Report.{no_overlaps, overlap_total, kinds, refusal, reported}
use Rattle.pool.specs.Pool.{Pool, load_pool, unused_from}
use Rattle.queue.specs.Queue.{queue}
use Rattle.totals.specs.Totals.{lost_from, is_leaked, verdict_of}
use Rattle.audit.specs.Audit.{no_audit, audit_device, audit_queued}
use Rattle.free_ring.specs.FreeRing.{audit_ring}
use Rattle.claims.specs.Claims.{container_superblock, descriptor_area, data_area, internal_pool, pool_bitmap_ring, object_map, object_map_node, claim, claim_node, claim_mappings, claim_queued}
use Rattle.volumes.specs.Volumes.{claim_volumes}
use Rattle.report.specs.declared.Answer.{Answer}
use Rattle.audit.specs.declared.Audit.{Audit}
use Rattle.report.specs.declared.OverlapLog.{OverlapLog}
use Rattle.report.specs.declared.Report.{Report}

-- "A report holds: .." from the audit's figures, the claims' log and the block map that they left
unfoldable pub report_of : Container → List ℕ → Pool → Audit → OverlapLog → List ℕ → Report
report_of c sm p a o map =
    let cells = take c.count map in
    let lost = lost_from cells kinds container_superblock in
    record {
      xid = c.xid;
      pool_used = count_in is_used cells 0;
      pool_unused = unused_from c p map p.blocks p.base 0;
      free_ring = a.ring;
      problems = a.problems;
      free = a.free;
      wrong_chunks = a.wrong;
      device_free = device_free sm;
      overlaps = o;
      lost = lost;
      leaked = count_in is_leaked cells 0;
      verdict = verdict_of lost (overlap_total o) a.problems.total;
    }

-- what a pass loads before it audits
pub record Parts : Type 0 where
  pub root : Address
  pub sm : List ℕ
  pub pool : Pool

-- sb: the bytes of the taken superblock; mapped: what its checkpoint map has for an id
module _ (c : Container) (sb : List ℕ) (mapped : ObjectId → Option Mapping) where
  -- "Then the object map loads, then the space manager": and then the manager's pool
  unfoldable pub pool_part : Address → List ℕ → Reads Parts
  pool_part root sm = load_pool c sm >>= λ p. done (record { root = root; sm = sm; pool = p })

  unfoldable pub manager_part : Address → Reads Parts
  manager_part root = manager c sb mapped >>= pool_part root

  unfoldable pub load_parts : Reads Parts
  load_parts = load_object_map c (object_map_address sb) >>= manager_part

  -- the chunks of the main device; "Then the pool queue (0)"
  unfoldable pub audit_blocks : Parts → Marked Audit → Reads (Marked Audit)
  audit_blocks x s = audit_device c x.pool x.sm s >>= queue c mapped (audit_queued c x.pool) (pool_queue x.sm)

  -- document 02, of the free ring: "Audit it between the pool bitmap (with its 20) and the first address or chunk-info block"
  unfoldable pub audit : Parts → List ℕ → Reads (Marked Audit)
  audit x map = audit_ring x.sm (record { map = map; figures = no_audit }) >>= audit_blocks x

  -- claims 1 to 6: "The areas are the taken superblock's; their lengths drop the top bit."
  unfoldable pub claim_areas : List ℕ → Marked OverlapLog → Reads (Marked OverlapLog)
  claim_areas sm s₀ = do
    s₁ ← claim c container_superblock 0 1 s₀
    s₂ ← claim c descriptor_area (descriptor_base sb) (without_top_bit (descriptor_blocks sb)) s₁
    s₃ ← claim c data_area (data_base sb) (without_top_bit (data_blocks sb)) s₂
    s₄ ← claim c internal_pool (pool_base sm) (pool_blocks sm) s₃
    s₅ ← claim c pool_bitmap_ring (pool_ring_base sm) (pool_ring_blocks sm) s₄
    claim c object_map (object_map_address sb).0 1 s₅

  -- claim 8, and after it document 02's claims of the volumes' own trees: "This comes after claim 8 and before the main queue."
  unfoldable pub claim_mappings_and_volumes : Description → List ℕ → Marked OverlapLog → Reads (Marked OverlapLog)
  claim_mappings_and_volumes d b s = claim_mappings c d b s >>= claim_volumes c d b sb

  -- claims 7 and 8: the nodes of the object map's tree, then its mappings; and the own trees of the volumes, 6, 7, 10 and 11
  unfoldable pub claim_objects : Address → Marked OverlapLog → Reads (Marked OverlapLog)
  claim_objects root s = do
    b ← read_node c root
    d ← describe b
    s₁ ← walk (claim_node c object_map_node) c d root s
    claim_mappings_and_volumes d b s₁

  -- claims 7 to 9; 9 is "free queue (pending release), from queue 1"
  unfoldable pub claim_trees : Parts → Marked OverlapLog → Reads (Marked OverlapLog)
  claim_trees x s = claim_objects x.root s >>= queue c mapped (claim_queued c) (main_queue x.sm)

  unfoldable pub claims : Parts → List ℕ → Reads (Marked OverlapLog)
  claims x map = claim_areas x.sm (record { map = map; figures = no_overlaps }) >>= claim_trees x

  -- the claims and the report, once the audit is made
  unfoldable pub claim_and_report : Parts → Marked Audit → Reads (Marked Report)
  claim_and_report x a = claims x a.map >>= λ o. done (record { map = o.map; figures = report_of c x.sm x.pool a.figures o.figures o.map })

  unfoldable pub audit_and_claim : List ℕ → Parts → Reads (Marked Report)
  audit_and_claim map x = audit x map >>= claim_and_report x

  -- "From here, at whichever read, test or sum comes first in the order above": refusals from 12 on, from a map whose bytes are cleared
  unfoldable pub body : List ℕ → Reads (Marked Report)
  body map = load_parts >>= audit_and_claim map

-- what follows the choice of the superblock
unfoldable pub rest : Geometry → List ℕ → Taken → Reads (Marked Report)
rest g map t = admit g t >>= λ c. body c t.sb (λ id. lookup id t.map) (cleared c.count map)

unfoldable pub pass : Geometry → List ℕ → Reads (Marked Report)
pass g map = take_superblock g >>= rest g map

pub record Result : Type 0 where
  pub answer : Answer
  pub map : List ℕ

-- up to this refusal the block map is untouched; the later ones zero one byte of it for each block
abbrev pub last_untouched : ℕ
last_untouched = 11

unfoldable pub settle : ℕ → List ℕ → Outcome (Marked Report) → Result
settle count map (given s) = record { answer = reported s.figures; map = s.map }
settle count map (refused r) = record { answer = refusal r; map = pick (leb (number_of r) last_untouched) map (cleared count map) }

unfoldable pub check_in : List ℕ → List ℕ → Outcome Geometry → Result
check_in image map (refused r) = record { answer = refusal r; map = map }
check_in image map (given g) = settle g.count map (run (block_of image g.size) (pass g map))

-- the answer and the block map that are left, from an image and a block map
unfoldable pub check : List ℕ → List ℕ → Result
check image map = check_in image map (run no_blocks (geometry (length image) (take least_size image) (length map)))
