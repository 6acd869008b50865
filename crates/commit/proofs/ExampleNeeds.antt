-- What the theorem asks is needed: a cut within the rules that breaks the limit, and a commit that breaks the rule about the blocks
-- read, cut within the limit. Each has another answer than the old image, before it is complete.
use mathlib.Core.Path.{◌≡◌, refl, sym, ap, ◌∙◌}
use mathlib.Core.Bool.{true, false, true≢false}
use mathlib.Core.List.{List, [], ◌∷◌}
use mathlib.Core.Logic.{◌≢◌}
use Prim.Native.Nat.{ℕ, ◌+◌, ◌*◌}
use native.Mathlib.Omega.{arith}
use lib.ListN.{length, take}
use Rattle.fields.proofs.Rows.{block_from}
use Rattle.blocks.specs.Reads.{run, no_blocks, visits, given}
use Rattle.blocks.specs.Blocks.{block_of}
use Rattle.checkpoint.specs.Geometry.{geometry, least_size}
use Rattle.checkpoint.specs.Checkpoint.{Taken}
use Rattle.checkpoint.specs.declared.Geometry.{Geometry}
use Rattle.report.specs.Report.{ending_number}
use Rattle.space_check.specs.Check.{check}
use Rattle.samples.proofs.Computing.{computed}
use Rattle.samples.proofs.Container.{block_bytes, superblock, checkpoint_map, roomy}
use Rattle.commit.specs.Stores.{Store, CutOf, touched, touched_from, block_touched, final_byte, overwrite, finished, complete}
use Rattle.commit.specs.Commit.{Takes, Rules, Limit, TouchesNoneRead, blocks_read, times_read, runs, promised}
use Rattle.commit.proofs.Cuts.{inside_any, parts_of, parts_cut, incomplete_at}
use Rattle.commit.proofs.Crash.{two_before}
use Rattle.commit.proofs.Example.{handed, stored, new_map, new_superblock, commit, layout, taken, each_index, LimitAt, takes, rules, old_xid}

-- The limit is needed: touched bytes may hold anything, here the map and the superblock of a transaction 9.

abbrev stray_stores : List Store
stray_stores = stored 3 (checkpoint_map 4 0x804fc5d0bfb025fd 9) ∷ stored 4 (superblock 4 0 0x3b16205e0296731e 9 2) ∷ []

unfoldable pub stray : List ℕ
unfolding block_from superblock checkpoint_map overwrite finished
stray = finished stray_stores roomy

stray_parts : parts_of commit stray_stores ≡ true
unfolding block_from superblock checkpoint_map parts_of inside_any commit new_map new_superblock
stray_parts = refl

pub stray_cut : CutOf commit roomy stray
unfolding stray
stray_cut = parts_cut commit stray_stores roomy stray_parts

pub stray_incomplete : complete commit stray ≡ false
unfolding stray roomy commit new_map new_superblock finished overwrite touched final_byte
stray_incomplete = incomplete_at commit stray (4 * block_bytes + 16) (omega arith) refl (λ e. absurd (omega arith))

pub stray_xid : (check stray handed).answer.report.xid ≡ 9
unfolding computed roomy stray
stray_xid = refl

pub stray_differs : check stray handed ≢ check roomy handed
stray_differs e = let same : ◌≡◌ {A = ℕ} 9 7 = sym stray_xid ∙ (ap (λ r. r.answer.report.xid) e ∙ old_xid) in omega arith

-- the theorem without the limit
abbrev WithoutLimit : Type 0
WithoutLimit =
    (image map : List ℕ) (ss : List Store)
    → Rules image map ss
    → (cut : List ℕ)
    → CutOf ss image cut
    → runs image cut map ≡ promised ss image cut map

pub limit_needed : ¬ WithoutLimit
limit_needed h = stray_differs (two_before roomy handed commit stray (h roomy handed commit rules stray stray_cut) stray_incomplete)

-- The rule about the blocks read is needed. A commit whose map takes the place of the old one: block 1 is a descriptor block, and
-- not the taken superblock's, but the pass reads it in two roles.

unfoldable pub reused : List Store
unfolding block_from superblock new_map
reused = new_map 1 ∷ stored 4 (superblock 4 0 0x3b1614a602967ed9 8 0) ∷ []

pub read_twice : times_read 1 (blocks_read (block_of roomy block_bytes) layout handed) ≡ 2
unfolding computed visits roomy blocks_read times_read
read_twice = refl

pub touched_block : block_touched reused block_bytes 1 ≡ true
unfolding reused new_map touched touched_from block_touched
touched_block = refl

pub rule_broken : ¬ TouchesNoneRead reused layout taken (blocks_read (block_of roomy block_bytes) layout handed)
rule_broken h =
    let again : ◌≡◌ {A = ℕ} 2 1 = sym read_twice ∙ (h 1 (rw read_twice (omega arith)) touched_block).once in
    omega arith

-- cut between its two stores, with the limit kept
unfoldable pub between : List ℕ
unfolding overwrite finished new_map
between = finished (new_map 1 ∷ []) roomy

between_parts : parts_of reused (new_map 1 ∷ []) ≡ true
unfolding parts_of inside_any reused new_map
between_parts = refl

pub between_cut : CutOf reused roomy between
unfolding between
between_cut = parts_cut reused (new_map 1 ∷ []) roomy between_parts

pub between_incomplete : complete reused between ≡ false
unfolding between roomy reused new_map finished overwrite touched final_byte
between_incomplete = incomplete_at reused between (4 * block_bytes + 16) (omega arith) refl (λ e. absurd (omega arith))

pub between_limit : Limit reused layout taken between
unfolding Limit computed roomy between reused new_map finished overwrite touched touched_from block_touched
between_limit =
    each_index (LimitAt reused between)
    (λ t s. absurd (true≢false (sym s)))
    (λ t s. absurd (true≢false (sym t)))
    (λ t s. absurd (true≢false (sym t)))
    (λ t s. absurd (true≢false (sym s)))

-- no chain loads there
pub between_refused : ending_number (check between handed).answer.ending ≡ 9
unfolding computed roomy between
between_refused = refl

pub old_reported : ending_number (check roomy handed).answer.ending ≡ 0
unfolding computed roomy
old_reported = refl

pub between_differs : check between handed ≢ check roomy handed
between_differs e =
    let same : ◌≡◌ {A = ℕ} 9 0 = sym between_refused ∙ (ap (λ r. ending_number r.answer.ending) e ∙ old_reported) in
    omega arith

-- the theorem without the rule
abbrev WithoutRule : Type 0
WithoutRule =
    (image map : List ℕ) (ss : List Store) (g : Geometry) (t : Taken)
    → run no_blocks (geometry (length image) (take least_size image) (length map)) ≡ given g
    → Takes (block_of image g.size) g t
    → (cut : List ℕ)
    → CutOf ss image cut
    → (complete ss cut ≡ false → Limit ss g t cut)
    → runs image cut map ≡ promised ss image cut map

pub rule_needed : ¬ WithoutRule
unfolding rules
rule_needed h =
    between_differs
    (two_before roomy handed reused between
    (h roomy handed reused layout taken rules.opens takes between between_cut (λ _. between_limit))
    between_incomplete)
