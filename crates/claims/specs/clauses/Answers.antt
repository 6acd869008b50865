-- What the answers of the code stand for.
use Rattle.std.specs.Prelude.{List, ℕ, ◌+◌, ◌≤◌, Result}
use Rattle.blocks.specs.Reads.{Reads}
use Rattle.blocks.specs.clauses.Images.{LentMut, bytes_lent}
use Rattle.blocks.specs.declared.Container.{Container}
use Rattle.blocks.specs.declared.Refusal.{Refusal}
use Rattle.nodes.specs.Node.{Entry}
use Rattle.block_map.specs.BlockMap.{Marked}
use Rattle.report.specs.clauses.Steps.{SteppedBy, Stepped, MovesUnlogged}
use Rattle.report.specs.declared.Cursor.{Cursor}
use Rattle.report.specs.declared.OverlapLog.{OverlapLog}
use Rattle.claims.specs.Claims.{claim_block, claim_from, claim_mapping, claim_queued}

-- the map that the claims are in, beside the overlaps found
abbrev pub owned : List ℕ → OverlapLog → Marked OverlapLog
owned map log = record { map = map; figures = log }

-- a claim ended as the definition says on any image, which it doesn't read; a refused one may have claimed some blocks, and none past the count
abbrev pub ClaimedAs : ℕ → Result OverlapLog Refusal → List ℕ → List ℕ → Reads (Marked OverlapLog) → Type 0
ClaimedAs count r before after defined = (f : ℕ → List ℕ) → Stepped f count r before after defined

-- a claim on the map that is lent, by what was counted before it
abbrev pub Claims : LentMut → Container → OverlapLog → Result OverlapLog Refusal → (Marked OverlapLog → Reads (Marked OverlapLog)) → Type 0
Claims map c log r pass = ClaimedAs c.count r (bytes_lent map) map.exit.now (pass (owned (bytes_lent map) log))

-- the blocks from a cursor on, and where they end
abbrev pub blocks_left : ℕ → Cursor → Marked OverlapLog → Reads (Marked OverlapLog)
blocks_left kind at = claim_from kind at.left at.next

abbrev pub end_of : Cursor → ℕ
end_of at = at.next + at.left

-- a claim of blocks before an end, for any block count that the end isn't past
abbrev pub ClaimsTo : LentMut → ℕ → OverlapLog → Result OverlapLog Refusal → (Marked OverlapLog → Reads (Marked OverlapLog)) → Type 0
ClaimsTo map end log r pass = (count : ℕ) → end ≤ count → ClaimedAs count r (bytes_lent map) map.exit.now (pass (owned (bytes_lent map) log))

-- the claim of the block at a cursor, on a map and from a log, as they were before it and are after it
abbrev pub ClaimsAt : ℕ → Cursor → List ℕ → List ℕ → OverlapLog → OverlapLog → Result Cursor Refusal → Type 0
ClaimsAt kind at before after log logged r =
    (count : ℕ) → end_of at ≤ count → (f : ℕ → List ℕ) → SteppedBy (λ _. logged) f count r before after (claim_block kind at.next (owned before log))

-- blocks that a kind owns from one cursor on up to another, with nothing logged
abbrev pub OwnedUpTo : ℕ → Cursor → Cursor → List ℕ → List ℕ → Type 0
OwnedUpTo kind from to before after = (count : ℕ) → end_of from ≤ count → (f : ℕ → List ℕ) → MovesUnlogged f count from to before after (blocks_left kind)

abbrev pub Owns : LentMut → ℕ → Cursor → Cursor → Type 0
Owns map kind from to = OwnedUpTo kind from to (bytes_lent map) map.exit.now

-- the claims of an entry, by the state that they are made in
abbrev pub claiming_mapping : Container → Entry → Marked OverlapLog → Reads (Marked OverlapLog)
claiming_mapping c e s = claim_mapping c s e

abbrev pub claiming_queued : Container → Entry → Marked OverlapLog → Reads (Marked OverlapLog)
claiming_queued c e s = claim_queued c s e
