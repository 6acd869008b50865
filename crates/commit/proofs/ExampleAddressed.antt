-- The same commit beside an address block, which the pass reads: it keeps the rules, and one that touches that block doesn't.
use mathlib.Core.Path.{◌≡◌, refl, sym, ◌∙◌}
use mathlib.Core.Bool.{true, false, true≢false}
use mathlib.Core.List.{List, [], ◌∷◌}
use Prim.Native.Nat.{ℕ, ◌+◌, ◌*◌}
use Rattle.fields.proofs.Rows.{block_from}
use Rattle.blocks.specs.Reads.{visits}
use Rattle.blocks.specs.Blocks.{block_of}
use Rattle.checkpoint.specs.Checkpoint.{Taken}
use Rattle.space_check.specs.Check.{check}
use Rattle.samples.proofs.Computing.{computed}
use Rattle.samples.proofs.Container.{block_bytes, address_block, superblock, addressed}
use Rattle.commit.specs.Stores.{Store, touched, touched_from, block_touched, overwrite, finished}
use Rattle.commit.specs.Commit.{Takes, Rules, TouchesNoneRead, blocks_read}
use Rattle.commit.proofs.Roles.{none_of, kept, kept_untouched}
use Rattle.commit.proofs.Example.{handed, stored, new_map, layout, taken_of, takes_by, rules_by}

abbrev pub taken : Taken
taken = taken_of addressed

pub takes : Takes (block_of addressed block_bytes) layout taken
unfolding computed addressed
takes = takes_by addressed refl refl refl refl

unfoldable pub beside : List Store
unfolding block_from superblock new_map
beside = new_map 3 ∷ stored 4 (superblock 4 1 0x3b16203a02967342 8 2) ∷ []

-- the blocks that must stay as they are: block 0, the superblock, its map; then as they are read the object map and its root, the
-- manager, the pool's bitmap, the address block, the chunk-info block, the chunk's bitmap, the root again for a walk and a scan
abbrev pub must_stay : List ℕ
must_stay = 0 ∷ 2 ∷ 1 ∷ 11 ∷ 12 ∷ 5 ∷ 7 ∷ address_block 4 ∷ 8 ∷ 9 ∷ 12 ∷ 12 ∷ []

pub kept_are : kept (block_of addressed block_bytes) layout handed taken ≡ must_stay
unfolding computed visits addressed kept
kept_are = refl

pub stays : none_of (block_touched beside block_bytes) must_stay ≡ true
unfolding beside new_map none_of touched touched_from block_touched
stays = refl

unfoldable pub beside_rules : Rules addressed handed beside
unfolding computed addressed
beside_rules = rules_by addressed beside refl takes (rw kept_are stays)

-- so the theorem holds of it, and the finished image is transaction 8's
pub beside_xid : (check (finished beside addressed) handed).answer.report.xid ≡ 8
unfolding computed addressed beside new_map overwrite finished
beside_xid = refl

-- one byte of the address block, the count of its list
unfoldable pub inside : List Store
unfolding block_from
inside = record { at = address_block 4 * block_bytes + 36; bytes = 2 ∷ [] } ∷ beside

pub does_not_stay : none_of (block_touched inside block_bytes) must_stay ≡ false
unfolding inside beside new_map none_of touched touched_from block_touched
does_not_stay = refl

pub inside_breaks : ¬ TouchesNoneRead inside layout taken (blocks_read (block_of addressed block_bytes) layout handed)
inside_breaks h = true≢false (sym (rw kept_are at (kept_untouched (block_of addressed block_bytes) layout handed taken takes inside h)) ∙ does_not_stay)
