-- The pass as the code takes it: the checkpoint map and the manager's lists are read in place.
use Rattle.std.specs.Prelude.{Result as Answered}
use Rattle.blocks.specs.declared.Refusal.{Refusal}
use Rattle.std.specs.Prelude.{List, ◌≡◌, ℕ, zero, suc, ◌+◌, ◌*◌, ◌%◌, ◌^◌, ◌≤◌, ◌<◌, leb, eqb, length}
use Rattle.std.specs.Borrow.{Bor}
use Rattle.fields.specs.Choice.{pick}
use Rattle.blocks.specs.Reads.{Reads, done, Outcome, given, refused, run, ◌>>=◌}
use Rattle.blocks.specs.Blocks.{block_of}
use Rattle.blocks.specs.clauses.Answers.{outcome_by}
use Rattle.blocks.specs.clauses.Images.{Lent, bytes, blocks_in, Pass, LentMut, bytes_lent}
use Rattle.blocks.specs.declared.Address.{Address}
use Rattle.blocks.specs.declared.Container.{Container}
use Rattle.nodes.specs.declared.Description.{Description}
use Rattle.checkpoint.specs.Superblock.{descriptor_base, descriptor_blocks, data_base, data_blocks, object_map_address, without_top_bit}
use Rattle.checkpoint.specs.Checkpoint.{take_superblock}
use Rattle.checkpoint.specs.clauses.Answers.{taken_in}
use Rattle.checkpoint.specs.clauses.InPlace.{mapped_in}
use Rattle.checkpoint.specs.declared.Checkpoint.{Checkpoint}
use Rattle.checkpoint.specs.declared.Geometry.{Geometry}
use Rattle.manager.specs.Manager.{pool_base, pool_blocks, pool_ring_base, pool_ring_blocks}
use Rattle.manager.specs.clauses.Place.{placed, manager_on}
use Rattle.manager.specs.declared.Manager.{Manager}
use Rattle.block_map.specs.BlockMap.{Marked, cleared}
use Rattle.report.specs.Report.{refusal, reported}
use Rattle.report.specs.clauses.Steps.{Stepped}
use Rattle.report.specs.declared.Answer.{Answer}
use Rattle.report.specs.declared.OverlapLog.{OverlapLog}
use Rattle.report.specs.declared.Report.{Report}
use Rattle.pool.specs.clauses.Place.{pool_in, pool_on}
use Rattle.pool.specs.declared.PoolPlace.{PoolPlace}
use Rattle.audit.specs.declared.Audit.{Audit}
use Rattle.claims.specs.Claims.{container_superblock, descriptor_area, data_area, internal_pool, object_map, claim}
use Rattle.trees.specs.clauses.Read.{NodeRead}
use Rattle.space_check.specs.Check.{Result, Parts, pool_part, manager_part, load_parts, audit_blocks, audit, claim_areas, claim_mappings_and_volumes, claim_objects, claim_trees, claims, report_of, claim_and_report, audit_and_claim, body, settle, rest, pass}
use Rattle.space_check.specs.declared.Area.{Area}
use Rattle.space_check.specs.declared.PartsPlace.{PartsPlace}

-- the superblock of a checkpoint, by its bytes; and a stage of the definition over a checkpoint of an image
abbrev pub superblock_of : (ℕ → List ℕ) → Checkpoint → List ℕ
superblock_of f k = f k.superblock.0

-- the area of each of claims 1 to 6: those that the superblock names, and those that the manager does
unfoldable pub superblock_area : List ℕ → ℕ → Area
superblock_area sb kind =
    pick (eqb kind descriptor_area) (record { start = descriptor_base sb; len = without_top_bit (descriptor_blocks sb) })
    (record { start = data_base sb; len = without_top_bit (data_blocks sb) })

unfoldable pub pool_area : List ℕ → ℕ → Area
pool_area sm kind =
    pick (eqb kind internal_pool) (record { start = pool_base sm; len = pool_blocks sm })
    (record { start = pool_ring_base sm; len = pool_ring_blocks sm })

unfoldable pub area_of : List ℕ → List ℕ → ℕ → Area
area_of sb sm kind =
    pick (eqb kind container_superblock) (record { start = 0; len = 1 })
    (pick (eqb kind object_map) (record { start = (object_map_address sb).0; len = 1 })
    (pick (leb kind data_area) (superblock_area sb kind) (pool_area sm kind)))

-- claims 1 to 6 are areas: the claims of left areas from a kind on
unfoldable pub areas_from : Container → List ℕ → List ℕ → ℕ → ℕ → Marked OverlapLog → Reads (Marked OverlapLog)
areas_from c sb sm zero kind s = done s
areas_from c sb sm (suc left) kind s = claim c kind (area_of sb sm kind).start (area_of sb sm kind).len s >>= areas_from c sb sm left (kind + 1)

-- what was loaded, by where it stands
abbrev pub parts_in : (ℕ → List ℕ) → Container → PartsPlace → Parts
parts_in f c x = record { root = x.root; sm = placed f c.size x.pool.manager; pool = pool_in f c.size x.pool }

abbrev pub parts_as : (ℕ → List ℕ) → Container → Answered PartsPlace Refusal → Outcome Parts
parts_as f c r = outcome_by (parts_in f c) r

-- what is loaded is what the definition loads
abbrev pub Loads : Lent → Container → Answered PartsPlace Refusal → ((ℕ → List ℕ) → Reads Parts) → Type 0
Loads image c r defined = let f = blocks_in image.entry c in parts_as f c r ≡ run f (defined f)

-- the stages of the definition, over a checkpoint of an image and what was loaded by its place
abbrev pub pool_of : Checkpoint → Address → Manager → (ℕ → List ℕ) → Reads Parts
pool_of k root m f = pool_part k.container (superblock_of f k) (mapped_in f k) root (placed f k.container.size m)

abbrev pub manager_of : Checkpoint → Address → (ℕ → List ℕ) → Reads Parts
manager_of k root f = manager_part k.container (superblock_of f k) (mapped_in f k) root

abbrev pub load_of : Checkpoint → (ℕ → List ℕ) → Reads Parts
load_of k f = load_parts k.container (superblock_of f k) (mapped_in f k)

abbrev pub blocks_of : Checkpoint → PartsPlace → Pass (Marked Audit) (Marked Audit)
blocks_of k x f = audit_blocks k.container (superblock_of f k) (mapped_in f k) (parts_in f k.container x)

abbrev pub audit_of : Checkpoint → PartsPlace → Pass (List ℕ) (Marked Audit)
audit_of k x f = audit k.container (superblock_of f k) (mapped_in f k) (parts_in f k.container x)

abbrev pub areas_of : Checkpoint → Manager → Pass (Marked OverlapLog) (Marked OverlapLog)
areas_of k m f = claim_areas k.container (superblock_of f k) (mapped_in f k) (placed f k.container.size m)

abbrev pub mappings_of : Checkpoint → Description → Address → Pass (Marked OverlapLog) (Marked OverlapLog)
mappings_of k d root f = claim_mappings_and_volumes k.container (superblock_of f k) (mapped_in f k) d (f root.0)

abbrev pub objects_of : Checkpoint → Address → Pass (Marked OverlapLog) (Marked OverlapLog)
objects_of k root f = claim_objects k.container (superblock_of f k) (mapped_in f k) root

abbrev pub trees_of : Checkpoint → PartsPlace → Pass (Marked OverlapLog) (Marked OverlapLog)
trees_of k x f = claim_trees k.container (superblock_of f k) (mapped_in f k) (parts_in f k.container x)

abbrev pub claims_of : Checkpoint → PartsPlace → Pass (List ℕ) (Marked OverlapLog)
claims_of k x f = claims k.container (superblock_of f k) (mapped_in f k) (parts_in f k.container x)

abbrev pub report_on : Lent → Container → PoolPlace → Audit → OverlapLog → List ℕ → Report
report_on image c place a o map = report_of c (manager_on image c place.manager) (pool_on image c place) a o map

abbrev pub reports_of : Checkpoint → PartsPlace → Audit → Pass (List ℕ) (Marked Report)
reports_of k x a f map = claim_and_report k.container (superblock_of f k) (mapped_in f k) (parts_in f k.container x) (record { map = map; figures = a })

abbrev pub pass_of : Checkpoint → PartsPlace → Pass (List ℕ) (Marked Report)
pass_of k x f map = audit_and_claim k.container (superblock_of f k) (mapped_in f k) map (parts_in f k.container x)

abbrev pub body_of : Checkpoint → Pass (List ℕ) (Marked Report)
body_of k f = body k.container (superblock_of f k) (mapped_in f k)

-- a claims' step from a map alone, as a pass over an image and it
abbrev pub ClaimsOn : Lent → LentMut → Container → Answered OverlapLog Refusal → Pass (List ℕ) (Marked OverlapLog) → Type 0
ClaimsOn image map c r pass =
    let f = blocks_in image.entry c in Stepped f c.count r (bytes_lent map) map.exit.now (pass f (bytes_lent map))

-- a step that makes a report, over an image and a map
abbrev pub Passes : Lent → LentMut → Checkpoint → Answered Report Refusal → Pass (List ℕ) (Marked Report) → Type 0
Passes image map k r pass =
    let f = blocks_in image.entry k.container in Stepped f k.container.count r (bytes_lent map) map.exit.now (pass f (bytes_lent map))

-- the root of the object map's tree was read when the map was loaded
abbrev pub RootRead : Bor (List ℕ) → Checkpoint → PartsPlace → Type 0
RootRead image k x = NodeRead (blocks_in image k.container) k.container x.root.0

-- a body's outcome, whose refusals zero each block's byte
abbrev pub settle_late : ℕ → List ℕ → Outcome (Marked Report) → Result
settle_late count map (given s) = record { answer = reported s.figures; map = s.map }
settle_late count map (refused r) = record { answer = refusal r; map = cleared count map }

-- what refusals 1 to 8 leave, of an image and a block map
pub record Ready (image map : List ℕ) (g : Geometry) : Type 0 where
  pub some : 0 < g.size
  pub words : g.size % 4 ≡ 0
  pub fits : g.count * g.size ≤ length image
  pub room : g.count ≤ length map
  pub area : g.base + g.ring < 2 ^ 64

abbrev pub result_of : Answer → List ℕ → Result
result_of a map = record { answer = a; map = map }

-- answer and map of a body, of what follows the choice of the superblock at an address, and of a whole pass
abbrev pub SettlesLate : Lent → LentMut → Checkpoint → Answer → Type 0
SettlesLate image map k r =
    let f = blocks_in image.entry k.container in
    let count = k.container.count in
    result_of r map.exit.now ≡ settle_late count (bytes_lent map) (run f (body_of k f (cleared count (bytes_lent map))))

abbrev pub Settles : Lent → LentMut → Geometry → Answer → ((ℕ → List ℕ) → List ℕ → Reads (Marked Report)) → Type 0
Settles image map g r pass = let f = block_of (bytes image) g.size in result_of r map.exit.now ≡ settle g.count (bytes_lent map) (run f (pass f (bytes_lent map)))

abbrev pub rest_of : Geometry → Address → (ℕ → List ℕ) → List ℕ → Reads (Marked Report)
rest_of g a f map = rest g map (taken_in f g a)

abbrev pub IsTakenAt : Bor (List ℕ) → Geometry → Address → Type 0
IsTakenAt image g a = let f = block_of image.now g.size in run f (take_superblock g) ≡ given (taken_in f g a)
