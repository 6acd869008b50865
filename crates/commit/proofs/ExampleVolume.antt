-- A commit beside a volume, whose superblock, object map and nodes the pass reads: it keeps the rules, and one that touches any of
-- these blocks doesn't.
use mathlib.Core.Path.{◌≡◌, refl, sym, ◌∙◌}
use mathlib.Core.Bool.{true, false, true≢false}
use mathlib.Core.List.{List, [], ◌∷◌}
use Prim.Native.Nat.{ℕ, ◌+◌, ◌*◌}
use Rattle.fields.proofs.Rows.{block_from}
use Rattle.blocks.specs.Reads.{visits}
use Rattle.blocks.specs.Blocks.{block_of}
use Rattle.checkpoint.specs.Checkpoint.{Taken}
use Rattle.space_check.specs.Check.{check}
use Rattle.samples.proofs.Computing.{computed}
use Rattle.samples.proofs.Container.{block_bytes, volume_block, volume_map_block, volume_root_block, extents_block, naming, superblock, with_volume}
use Rattle.commit.specs.Stores.{Store, touched, touched_from, block_touched, overwrite, finished}
use Rattle.commit.specs.Commit.{Takes, Rules, TouchesNoneRead, blocks_read}
use Rattle.commit.proofs.Roles.{none_of, kept, kept_untouched}
use Rattle.commit.proofs.Example.{handed, stored, new_map, layout, taken_of, takes_by, rules_by}

abbrev pub taken : Taken
taken = taken_of with_volume

pub takes : Takes (block_of with_volume block_bytes) layout taken
unfolding computed with_volume
takes = takes_by with_volume refl refl refl refl

unfoldable pub beside : List Store
unfolding block_from superblock new_map
beside = new_map 3 ∷ stored 4 (naming (superblock 4 0 0x3b256fd902871fa1 8 2)) ∷ []

-- the blocks that must stay as they are: block 0, the superblock, its map; then as they are read the object map and its root, the
-- manager, the pool's bitmap, the chunk-info block, the chunk's bitmap, the root again for a walk and a scan; and the volume's
-- superblock, its object map, and the roots of its trees, each once for what it says of its tree and once for its walk
abbrev pub must_stay : List ℕ
must_stay =
    0 ∷ 2 ∷ 1 ∷ 10 ∷ 11 ∷ 5 ∷ 7 ∷ 8 ∷ 9 ∷ 11 ∷ 11
    ∷ volume_block 4 ∷ volume_map_block 4 ∷ volume_root_block 4 ∷ volume_root_block 4 ∷ extents_block 4 ∷ extents_block 4 ∷ []

pub kept_are : kept (block_of with_volume block_bytes) layout handed taken ≡ must_stay
unfolding computed visits with_volume kept
kept_are = refl

pub stays : none_of (block_touched beside block_bytes) must_stay ≡ true
unfolding beside new_map none_of touched touched_from block_touched
stays = refl

unfoldable pub beside_rules : Rules with_volume handed beside
unfolding computed with_volume
beside_rules = rules_by with_volume beside refl takes (rw kept_are stays)

-- so the theorem holds of it, and the finished image is transaction 8's
pub beside_xid : (check (finished beside with_volume) handed).answer.report.xid ≡ 8
unfolding computed with_volume beside new_map overwrite finished
beside_xid = refl

-- the same commit with one byte of a block more
unfoldable pub touching : ℕ → List Store
touching n = record { at = n * block_bytes + 100; bytes = 1 ∷ [] } ∷ beside

abbrev pub Breaks : ℕ → Type 0
Breaks n = ¬ TouchesNoneRead (touching n) layout taken (blocks_read (block_of with_volume block_bytes) layout handed)

breaks_by : (n : ℕ) → none_of (block_touched (touching n) block_bytes) must_stay ≡ false → Breaks n
breaks_by n e h = true≢false (sym (rw kept_are at (kept_untouched (block_of with_volume block_bytes) layout handed taken takes (touching n) h)) ∙ e)

-- it breaks the rules in each role: the volume's superblock, its object map, the node of its map, the node of its extent-reference tree
pub superblock_breaks : Breaks (volume_block 4)
unfolding touching beside new_map none_of touched touched_from block_touched
superblock_breaks = breaks_by (volume_block 4) refl

pub map_breaks : Breaks (volume_map_block 4)
unfolding touching beside new_map none_of touched touched_from block_touched
map_breaks = breaks_by (volume_map_block 4) refl

pub node_breaks : Breaks (volume_root_block 4)
unfolding touching beside new_map none_of touched touched_from block_touched
node_breaks = breaks_by (volume_root_block 4) refl

pub extents_breaks : Breaks (extents_block 4)
unfolding touching beside new_map none_of touched touched_from block_touched
extents_breaks = breaks_by (extents_block 4) refl
