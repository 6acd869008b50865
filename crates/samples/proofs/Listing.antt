-- The container of document 01's listing, through the whole check: the report that the listing prints, and the block map; and the
-- same with an address block, and with a volume.
use mathlib.Core.Path.{◌≡◌, refl}
use mathlib.Core.List.{List, [], ◌∷◌, ◌++◌}
use Prim.Native.Nat.{ℕ}
use lib.ListN.{replicate}
use Rattle.blocks.specs.declared.Refusal.TheVariants.{NoCheckpoint, BadChecksum}
use Rattle.space_check.specs.Check.{check}
use Rattle.totals.specs.Totals.{consistent}
use Rattle.report.specs.Report.{no_problems, no_overlaps, kinds, refusal, reported}
use Rattle.report.specs.declared.Report.{Report}
use Rattle.samples.proofs.Computing.{computed}
use Rattle.samples.proofs.Container.{sealed_with, map_checksum, manager_checksum, listing, addressed, with_volume}

-- the report of a consistent container, by its pool blocks in use and its free blocks
abbrev consistent_with : ℕ → ℕ → Report
consistent_with used free =
    record {
      xid = 7;
      pool_used = used;
      pool_unused = 0;
      free_ring = 0;
      problems = no_problems;
      free = free;
      wrong_chunks = 0;
      device_free = free;
      overlaps = no_overlaps;
      lost = replicate kinds (record { count = 0; first = 0 });
      leaked = 0;
      verdict = consistent;
    }

-- "2 blocks in use, 0 marked but unused, 0 problems"; "6 blocks free; .. wrong free count: 0; device free count 6"; "consistent"
abbrev pub listed : Report
listed = consistent_with 2 6

-- owner and marked: superblock, descriptor area, data area, pool's bitmap, pool (used), object map, its root; six free blocks;
-- and one byte past the block count, as it was
abbrev pub listed_map : List ℕ
listed_map = 17 ∷ 18 ∷ 18 ∷ 19 ∷ 19 ∷ 21 ∷ 52 ∷ 52 ∷ 22 ∷ 23 ∷ 0 ∷ 0 ∷ 0 ∷ 0 ∷ 0 ∷ 0 ∷ 255 ∷ []

pub listing_checked : check listing (replicate 17 255) ≡ record { answer = reported listed; map = listed_map }
unfolding computed listing
listing_checked = refl

-- where its map block's checksum fails no superblock loads: refusal 9, and the block map is untouched
pub early_refusal : check (sealed_with 0 manager_checksum) (replicate 17 255) ≡ record { answer = refusal NoCheckpoint; map = replicate 17 255 }
unfolding computed sealed_with
early_refusal = refl

-- where its manager's fails: refusal 13, and one byte is zeroed for each block, none past the count
pub late_refusal : check (sealed_with map_checksum 0) (replicate 17 255) ≡ record { answer = refusal BadChecksum; map = replicate 16 0 ++ (255 ∷ []) }
unfolding computed sealed_with
late_refusal = refl

-- with an address block: it is used in the pool as well, and the chunk-info block is reached through it
abbrev pub addressed_map : List ℕ
addressed_map = 17 ∷ 18 ∷ 18 ∷ 18 ∷ 18 ∷ 19 ∷ 19 ∷ 21 ∷ 52 ∷ 52 ∷ 52 ∷ 22 ∷ 23 ∷ 0 ∷ 0 ∷ 0 ∷ 255 ∷ []

pub addressed_checked : check addressed (replicate 17 255) ≡ record { answer = reported (consistent_with 3 3); map = addressed_map }
unfolding computed addressed
addressed_checked = refl

-- with a volume: its superblock is claim 8's, then its object map and the map's node, and its extent-reference tree's node (10)
abbrev pub volume_map : List ℕ
volume_map = 17 ∷ 18 ∷ 18 ∷ 18 ∷ 18 ∷ 19 ∷ 19 ∷ 21 ∷ 52 ∷ 52 ∷ 22 ∷ 23 ∷ 24 ∷ 22 ∷ 23 ∷ 26 ∷ 255 ∷ []

pub volume_checked : check with_volume (replicate 17 255) ≡ record { answer = reported (consistent_with 2 0); map = volume_map }
unfolding computed with_volume
volume_checked = refl
