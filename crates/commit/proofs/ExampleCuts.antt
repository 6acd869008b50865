-- The theorem applied to two cuts of the example's commit: a torn superblock, and the finished image.
use mathlib.Core.Path.{◌≡◌, refl, sym, ◌∙◌}
use mathlib.Core.Bool.{true, false, true≢false}
use mathlib.Core.List.{List, [], ◌∷◌}
use Prim.Native.Nat.{ℕ, ◌+◌, ◌*◌, ◌<◌}
use native.Mathlib.Omega.{arith}
use lib.ListN.{take}
use Rattle.fields.specs.Header.{xid_of}
use Rattle.blocks.specs.Blocks.{block_of}
use Rattle.space_check.specs.Check.{check}
use Rattle.samples.proofs.Computing.{computed}
use Rattle.samples.proofs.Container.{block_bytes, roomy}
use Rattle.commit.specs.Stores.{Store, CutOf, touched, touched_from, block_touched, final_byte, overwrite, finished, complete}
use Rattle.commit.specs.Commit.{Limit, runs, promised}
use Rattle.commit.proofs.Stores.{finished_cut}
use Rattle.commit.proofs.Cuts.{inside_any, parts_of, parts_cut, incomplete_at, finished_complete}
use Rattle.commit.proofs.Crash.{crash, two_before}
use Rattle.commit.proofs.Example.{handed, new_map, new_superblock, commit, layout, taken, each_index, LimitAt, rules, new_xid}

-- A torn superblock: the last store comes first, and is cut after 128 bytes, which hold its checksum and its xid but no place of a
-- map. No byte of the map is written.

abbrev torn_store : Store
torn_store = record { at = new_superblock.at; bytes = take 128 new_superblock.bytes }

unfoldable pub torn : List ℕ
unfolding overwrite finished
torn = finished (torn_store ∷ []) roomy

torn_parts : parts_of commit (torn_store ∷ []) ≡ true
unfolding parts_of inside_any commit new_map new_superblock
torn_parts = refl

pub torn_cut : CutOf commit roomy torn
unfolding torn
torn_cut = parts_cut commit (torn_store ∷ []) roomy torn_parts

-- the descriptor length, at byte 140, isn't written
pub torn_incomplete : complete commit torn ≡ false
unfolding torn roomy commit new_map new_superblock finished overwrite touched final_byte
torn_incomplete = incomplete_at commit torn (4 * block_bytes + 140) (omega arith) refl (λ e. absurd (omega arith))

pub torn_xid : xid_of (block_of torn block_bytes 4) ≡ 8
unfolding computed roomy torn new_superblock
torn_xid = refl

-- no touched descriptor block is sound
pub torn_limit : Limit commit layout taken torn
unfolding Limit computed roomy torn commit new_map new_superblock finished overwrite touched touched_from block_touched
torn_limit =
    each_index (LimitAt commit torn)
    (λ t s. absurd (true≢false (sym t)))
    (λ t s. absurd (true≢false (sym t)))
    (λ t s. absurd (true≢false (sym s)))
    (λ t s. absurd (true≢false (sym s)))

-- so run two gives the old image's answer and map
pub torn_runs : runs roomy torn handed ≡ promised commit roomy torn handed
unfolding rules
torn_runs = crash roomy handed commit rules torn torn_cut (λ _. torn_limit)

pub torn_old : check torn handed ≡ check roomy handed
torn_old = two_before roomy handed commit torn torn_runs torn_incomplete

-- The complete cut: run two gives the finished image's answer, of transaction 8. The limit isn't asked of it, and it breaks it.

pub complete_runs : runs roomy (finished commit roomy) handed ≡ promised commit roomy (finished commit roomy) handed
unfolding rules
complete_runs =
    crash roomy handed commit rules (finished commit roomy) (finished_cut commit roomy)
    (λ e. absurd (true≢false (sym (finished_complete commit roomy) ∙ e)))

pub complete_xid : (runs roomy (finished commit roomy) handed).two.answer.report.xid ≡ 8
unfolding runs
complete_xid = new_xid

pub complete_past_limit : ¬ Limit commit layout taken (finished commit roomy)
unfolding Limit computed roomy commit new_map new_superblock finished overwrite touched touched_from block_touched
complete_past_limit l = let lower : 8 < 7 = l 3 (omega arith) refl refl in omega arith
