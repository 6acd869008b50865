-- What the code's answers stand for.
use Rattle.blocks.specs.declared.Refusal.{Refusal}
use Rattle.std.specs.Prelude.{Bool, List, [], ◌≡◌, ℕ, Result}
use Rattle.std.specs.Borrow.{Bor}
use Rattle.blocks.specs.Reads.{Reads, run}
use Rattle.blocks.specs.Blocks.{block_of}
use Rattle.blocks.specs.clauses.Images.{Lent, bytes, blocks_in, Pass, LentMut, bytes_lent}
use Rattle.blocks.specs.clauses.Answers.{outcome_by, there_as, Always}
use Rattle.blocks.specs.declared.Address.{Address}
use Rattle.blocks.specs.declared.Container.{Container}
use Rattle.blocks.specs.declared.ObjectId.{ObjectId}
use Rattle.nodes.specs.Node.{key_count}
use Rattle.nodes.specs.Scan.{leaf_from, index_from, scan_node, below, scan}
use Rattle.nodes.specs.Walk.{children_from}
use Rattle.nodes.specs.Walk as walk
use Rattle.nodes.specs.clauses.Answers.{entry_in}
use Rattle.nodes.specs.declared.Description.{Description}
use Rattle.nodes.specs.declared.EntryPlace.{EntryPlace}
use Rattle.checkpoint.specs.clauses.InPlace.{mapped_in}
use Rattle.checkpoint.specs.declared.Checkpoint.{Checkpoint}
use Rattle.block_map.specs.BlockMap.{Marked}
use Rattle.block_map.specs.clauses.Maps.{Kept, Unlogged}
use Rattle.report.specs.clauses.Steps.{Stepped, MovesUnlogged}
use Rattle.report.specs.declared.Cursor.{Cursor}
use Rattle.report.specs.declared.OverlapLog.{OverlapLog}
use Rattle.pool.specs.declared.PoolPlace.{PoolPlace}
use Rattle.queue.specs.Queue.{scan_queue, queue}
use Rattle.audit.specs.Audit.{audit_queued}
use Rattle.audit.specs.clauses.Answers.{pool_at}
use Rattle.audit.specs.declared.Audit.{Audit}
use Rattle.claims.specs.Claims.{claim_queued}
use Rattle.claims.specs.clauses.Answers.{owned}
use Rattle.trees.specs.clauses.Visits.{Plan}
use Rattle.trees.specs.clauses.Walks.{pointers_down}
use Rattle.trees.specs.clauses.Read.{ScanRead, ChildRead, TreeRead}
use Rattle.trees.specs.declared.Walked.{Walked}

-- a step over an image and a map, from the figures before it to its answer, ended as a pass does
abbrev pub Visits : {F : Type 0} → Lent → LentMut → Checkpoint → F → Result F Refusal → Pass (Marked F) (Marked F) → Type 0
Visits image map k figures r pass =
    let f = blocks_in image.entry k.container in
    Stepped f k.container.count r (bytes_lent map) map.exit.now (pass f (record { map = bytes_lent map; figures = figures }))

-- the same of a claims' step
abbrev pub ClaimsAs : Lent → LentMut → Container → OverlapLog → Result OverlapLog Refusal → Pass (Marked OverlapLog) (Marked OverlapLog) → Type 0
ClaimsAs image map c log r pass =
    let f = blocks_in image.entry c in Stepped f c.count r (bytes_lent map) map.exit.now (pass f (owned (bytes_lent map) log))

-- what an entry in a node is visited for; the entries of a leaf from a cursor on, and all; a node of a level, and a whole tree, by their addresses
module _ {F : Type 0} (p : Plan F) where
  abbrev pub entry_visit : Lent → EntryPlace → Pass (Marked F) (Marked F)
  entry_visit node e f s = p.visit f s (entry_in (bytes node) e)

  module _ (d : Description) where
    abbrev pub leaf_of : (ℕ → List ℕ) → List ℕ → Cursor → Marked F → Reads (Marked F)
    leaf_of f b at = leaf_from (p.visit f) d (p.child f) b at.left at.next

    abbrev pub leaf_scan : Lent → Pass (Marked F) (Marked F)
    leaf_scan node f = leaf_of f (bytes node) (record { next = 0; left = key_count (bytes node) })

    abbrev pub index_of : (ℕ → List ℕ) → ℕ → List ℕ → Cursor → Marked F → Reads (Marked F)
    index_of f level b at = index_from (p.visit f) d (p.child f) (below (p.visit f) d (p.child f) level) b at.left at.next

    abbrev pub scan_below : (ℕ → List ℕ) → ℕ → List ℕ → Marked F → Reads (Marked F)
    scan_below f level = scan_node (p.visit f) d (p.child f) (below (p.visit f) d (p.child f) level)

    abbrev pub node_scan : ℕ → Address → Pass (Marked F) (Marked F)
    node_scan level a f = scan_below f level (f a.0)

    abbrev pub tree_scan : Address → Pass (Marked F) (Marked F)
    tree_scan root f = scan (p.visit f) d (p.child f) (f root.0)

-- a queue whose root was read from an address, and one whose root has an id
abbrev pub root_scan : {F : Type 0} → Checkpoint → Plan F → Address → Pass (Marked F) (Marked F)
root_scan k p root f = scan_queue k.container (mapped_in f k) (p.visit f) (f root.0)

abbrev pub queue_scan : {F : Type 0} → Checkpoint → Plan F → ObjectId → Pass (Marked F) (Marked F)
queue_scan k p root f = queue k.container (mapped_in f k) (p.visit f) root

-- the pool queue, whose entries are audited, and the main queue, whose entries are claimed
abbrev pub audited_queue : Checkpoint → PoolPlace → ObjectId → Pass (Marked Audit) (Marked Audit)
audited_queue k place root f = queue k.container (mapped_in f k) (audit_queued k.container (pool_at k.container place f)) root

abbrev pub claimed_queue : Checkpoint → ObjectId → Pass (Marked OverlapLog) (Marked OverlapLog)
claimed_queue k root f = queue k.container (mapped_in f k) (claim_queued k.container) root

-- an entry was visited where nothing is logged of it, and there alone
abbrev pub VisitsUnlogged : {F : Type 0} → Lent → LentMut → Checkpoint → Plan F → Lent → EntryPlace → Bool → Type 0
VisitsUnlogged image map k p node e r =
    let f = blocks_in image.entry k.container in
    (r ≡ p.unlogged f (entry_in (bytes node) e) (bytes_lent map)) × Unlogged f k.container.count r (bytes_lent map) map.exit.now (entry_visit p node e f)

-- the entries of a leaf from one cursor up to another were visited and logged nothing
abbrev pub LeafTo : {F : Type 0} → Lent → LentMut → Checkpoint → Plan F → Description → Lent → Cursor → Cursor → Type 0
LeafTo image map k p d node from to =
    let f = blocks_in image.entry k.container in MovesUnlogged f k.container.count from to (bytes_lent map) map.exit.now (leaf_of p d f (bytes node))

-- all child pointers of a node are there, or the first that is not is refused
abbrev pub FindsPointers : Lent → Description → Result (Unit {0}) Refusal → Type 0
FindsPointers node d r = let b = bytes node in Always (there_as (pointers_down d b (key_count b)) r) (children_from d b (key_count b) 0 [])

-- a walk's state: the nodes that may still come, and the claims
abbrev pub walked : List ℕ → Walked → walk.Walked (Marked OverlapLog)
walked map w = record { left = w.left; state = owned map w.log }

pub record Walks (image : List ℕ) (c : Container) (r : Result Walked Refusal) (before after : List ℕ) (defined : Reads (walk.Walked (Marked OverlapLog))) : Type 0 where
  pub goes : outcome_by (walked after) r ≡ run (block_of image c.size) defined
  pub kept : Kept c.count before after

abbrev pub WalksFrom : Lent → LentMut → Container → Walked → Result Walked Refusal → (walk.Walked (Marked OverlapLog) → Reads (walk.Walked (Marked OverlapLog))) → Type 0
WalksFrom image map c from r pass = Walks (bytes image) c r (bytes_lent map) map.exit.now (pass (walked (bytes_lent map) from))

-- what a scan asks of the node at an address of an image, of the child that entry i of a node names, and of a tree's root
abbrev pub ScanReadAt : {F : Type 0} → Bor (List ℕ) → Checkpoint → Plan F → Description → Address → Type 0
ScanReadAt image k p d a = let f = blocks_in image k.container in ScanRead f k.container p d (f a.0)

abbrev pub ChildReadAt : {F : Type 0} → Bor (List ℕ) → Checkpoint → Plan F → Description → Bor (List ℕ) → ℕ → Type 0
ChildReadAt image k p d node i = ChildRead (blocks_in image k.container) k.container p d node.now i

abbrev pub TreeReadAt : Bor (List ℕ) → Checkpoint → Description → Address → Type 0
TreeReadAt image k d root = let f = blocks_in image k.container in TreeRead f k.container d (f root.0)
