-- Answers of the audit's steps, against passes of the definition.
use Rattle.std.specs.Prelude.{Result}
use Rattle.blocks.specs.declared.Refusal.{Refusal}
use Rattle.std.specs.Prelude.{List, ℕ, ◌+◌, ◌*◌}
use Rattle.blocks.specs.Reads.{Reads, ◌>>=◌}
use Rattle.blocks.specs.Blocks.{read_raw}
use Rattle.blocks.specs.clauses.Images.{Lent, bytes, blocks_in, Pass, LentMut, bytes_lent}
use Rattle.blocks.specs.declared.Address.{Address}
use Rattle.blocks.specs.declared.Container.{Container}
use Rattle.nodes.specs.clauses.Answers.{entry_in}
use Rattle.nodes.specs.declared.EntryPlace.{EntryPlace}
use Rattle.manager.specs.Manager.{has_address_blocks}
use Rattle.manager.specs.Chunks.{chunk_count, chunks_at, chunk_length}
use Rattle.manager.specs.clauses.Place.{placed}
use Rattle.manager.specs.clauses.Lists.{values, records, held}
use Rattle.manager.specs.declared.AddressList.{AddressList}
use Rattle.block_map.specs.BlockMap.{Marked}
use Rattle.report.specs.clauses.Steps.{SteppedBy, Stepped}
use Rattle.report.specs.declared.Cursor.{Cursor}
use Rattle.pool.specs.Pool.{Pool}
use Rattle.pool.specs.clauses.Place.{pool_in}
use Rattle.pool.specs.declared.PoolPlace.{PoolPlace}
use Rattle.queue.specs.declared.Run.{Run}
use Rattle.audit.specs.Audit.{audit_mark, mark_from, audit_chunks, audit_each, audit_listed, audit_device, audit_queued_from, audit_queued}
use Rattle.audit.specs.declared.Audit.{Audit}

-- the block map beside what the audit counted
abbrev pub audited : List ℕ → Audit → Marked Audit
audited map audit = record { map = map; figures = audit }

-- a step over an image and a map ended as a pass over them does; and the same from what was audited before it
abbrev pub AuditsOn : Lent → LentMut → Container → Result Audit Refusal → Pass (List ℕ) (Marked Audit) → Type 0
AuditsOn image map c r pass =
    let f = blocks_in image.entry c in Stepped f c.count r (bytes_lent map) map.exit.now (pass f (bytes_lent map))

abbrev pub AuditsAs : Lent → LentMut → Container → Audit → Result Audit Refusal → Pass (Marked Audit) (Marked Audit) → Type 0
AuditsAs image map c audit r pass = AuditsOn image map c r (λ f m. pass f (audited m audit))

-- the same of a step that leaves the map as it is, of one that reads no block, and of one that does neither
abbrev pub AuditsStill : Lent → Lent → Container → Audit → Result Audit Refusal → Pass (Marked Audit) (Marked Audit) → Type 0
AuditsStill image map c audit r pass =
    let f = blocks_in image.entry c in Stepped f c.count r (bytes map) (bytes map) (pass f (audited (bytes map) audit))

abbrev pub AuditsBlind : LentMut → Container → Audit → Result Audit Refusal → (Marked Audit → Reads (Marked Audit)) → Type 0
AuditsBlind map c audit r pass = (f : ℕ → List ℕ) → Stepped f c.count r (bytes_lent map) map.exit.now (pass (audited (bytes_lent map) audit))

abbrev pub Anywhere : Audit → Result Audit Refusal → (Marked Audit → Reads (Marked Audit)) → Type 0
Anywhere audit r pass = (f : ℕ → List ℕ) (count : ℕ) (map : List ℕ) → Stepped f count r map map (pass (audited map audit))

-- the pool in a place
abbrev pub pool_at : Container → PoolPlace → (ℕ → List ℕ) → Pool
pool_at c place f = pool_in f c.size place

-- the chunks of a chunk-info block from a cursor on, and all of them
abbrev pub chunks_left : Container → PoolPlace → List ℕ → Cursor → Pass (Marked Audit) (Marked Audit)
chunks_left c place block at f = audit_chunks c (pool_at c place f) (records block at.left (chunks_at + chunk_length * at.next))

abbrev pub chunks_in : Container → PoolPlace → Lent → Pass (Marked Audit) (Marked Audit)
chunks_in c place block f = audit_chunks c (pool_at c place f) (records (bytes block) (chunk_count (bytes block)) chunks_at)

-- what is done with a block that was read, and with one that a list names: by that, and by the problem of an unmarked one
abbrev pub BlockEntry : Type 0
BlockEntry = Container → Pool → Address → Marked Audit → List ℕ → Reads (Marked Audit)

abbrev pub BlockAudit : Type 0
BlockAudit = Container → Pool → Address → Marked Audit → Reads (Marked Audit)

abbrev pub entry_of : BlockEntry → Container → PoolPlace → Address → Pass (Marked Audit) (Marked Audit)
entry_of entry c place a f s = entry c (pool_at c place f) a s (f a.0)

abbrev pub read_by : BlockEntry → BlockAudit
read_by entry c p a s = read_raw c a >>= entry c p a s

abbrev pub audit_by : ℕ → BlockEntry → BlockAudit
audit_by unmarked entry c p a s = audit_mark p unmarked a.0 s >>= read_by entry c p a

-- the blocks that a list of addresses names, by what is done at each: from a cursor on, all of them, and the device's

abbrev pub each_left : BlockAudit → Container → PoolPlace → AddressList → Cursor → Pass (Marked Audit) (Marked Audit)
each_left visit c place l at f = audit_each (visit c (pool_at c place f)) (values 8 (held f c.size l.holder) at.left (l.at + 8 * at.next))

abbrev pub addresses_on : (ℕ → List ℕ) → Container → AddressList → List ℕ
addresses_on f c l = values 8 (held f c.size l.holder) l.count l.at

abbrev pub each_in : BlockAudit → Container → PoolPlace → AddressList → Pass (Marked Audit) (Marked Audit)
each_in visit c place l f = audit_each (visit c (pool_at c place f)) (addresses_on f c l)

abbrev pub listed_of : Container → PoolPlace → AddressList → Pass (Marked Audit) (Marked Audit)
listed_of c place l f = audit_listed c (pool_at c place f) (has_address_blocks (placed f c.size place.manager)) (addresses_on f c l)

abbrev pub device_in : Container → PoolPlace → Pass (Marked Audit) (Marked Audit)
device_in c place f = audit_device c (pool_at c place f) (placed f c.size place.manager)

-- queued blocks from a cursor on, those of a run, and those that an entry names
abbrev pub queued_left : Container → PoolPlace → Cursor → Pass (Marked Audit) (Marked Audit)
queued_left c place at f = audit_queued_from c (pool_at c place f) at.left at.next

abbrev pub run_blocks : Run → Cursor
run_blocks run = record { next = run.start; left = run.count }

abbrev pub queued_in : Container → PoolPlace → Lent → EntryPlace → Pass (Marked Audit) (Marked Audit)
queued_in c place node entry f s = audit_queued c (pool_at c place f) s (entry_in (bytes node) entry)

-- a step of a bitmap's marking: whatever zeros were counted before; and with those before it
abbrev pub Marks : LentMut → Container → Result (Unit {0}) Refusal → (Marked ℕ → Reads (Marked ℕ)) → Type 0
Marks map c r pass = (f : ℕ → List ℕ) (zeros : ℕ) → SteppedBy (λ _. zeros) f c.count r (bytes_lent map) map.exit.now (pass (record { map = bytes_lent map; figures = zeros }))

abbrev pub MarksAs : LentMut → Container → ℕ → Result ℕ Refusal → (Marked ℕ → Reads (Marked ℕ)) → Type 0
MarksAs map c zeros r pass = (f : ℕ → List ℕ) → Stepped f c.count r (bytes_lent map) map.exit.now (pass (record { map = bytes_lent map; figures = zeros }))

-- the bits from a cursor on
abbrev pub bits_left : Container → Lent → ℕ → Cursor → Marked ℕ → Reads (Marked ℕ)
bits_left c bits start at = mark_from c (bytes bits) start at.left at.next
