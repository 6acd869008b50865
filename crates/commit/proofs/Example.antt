-- The rules can be kept: a commit of transaction 8 on the 16-block container, its map and its superblock in the two free
-- blocks of the descriptor area. The finished image's answer is another than the old one's. ExampleCuts.antt cuts it.
use mathlib.Core.Path.{◌≡◌, refl, sym, ap, ◌∙◌}
use mathlib.Core.Bool.{Bool, true, false, true≢false}
use mathlib.Core.List.{List, [], ◌∷◌}
use mathlib.Core.Logic.{◌≢◌}
use Prim.Native.Nat.{ℕ, zero, suc, ◌+◌, ◌*◌, ◌<◌}
use native.Mathlib.Omega.{arith}
use lib.ListN.{length, take, replicate}
use Rattle.fields.specs.Header.{xid_of}
use Rattle.fields.proofs.Rows.{Row, block_from}
use Rattle.blocks.specs.Reads.{run, no_blocks, given, visits}
use Rattle.blocks.specs.Blocks.{block_of}
use Rattle.checkpoint.specs.Superblock.{sound}
use Rattle.checkpoint.specs.Geometry.{geometry, least_size}
use Rattle.checkpoint.specs.Checkpoint.{Taken, take_superblock}
use Rattle.checkpoint.specs.declared.Geometry.{Geometry}
use Rattle.space_check.specs.Check.{check}
use Rattle.samples.proofs.Computing.{computed}
use Rattle.samples.proofs.Container.{block_bytes, manager_id, manager_block, superblock, checkpoint_map, roomy}
use Rattle.commit.specs.Stores.{Store, touched, touched_from, block_touched, overwrite, finished}
use Rattle.commit.specs.Commit.{Takes, Rules}
use Rattle.commit.proofs.Roles.{none_of, kept, kept_enough}

abbrev pub handed : List ℕ
handed = replicate 16 255

-- a block of rows, stored at its place
abbrev pub stored : ℕ → List Row → Store
stored n rows = record { at = n * block_bytes; bytes = block_from block_bytes 0 rows [] }

-- transaction 8's map, in block n
unfoldable pub new_map : ℕ → Store
unfolding block_from checkpoint_map
new_map n = stored n (checkpoint_map 4 0x804fc1d4bfb029fa 8)

unfoldable pub new_superblock : Store
unfolding block_from superblock
new_superblock = stored 4 (superblock 4 0 0x3b161c620296771b 8 2)

-- the new map in block 3, then the new superblock in block 4
unfoldable pub commit : List Store
unfolding new_map new_superblock
commit = new_map 3 ∷ new_superblock ∷ []

-- what block 0 says
abbrev pub layout : Geometry
layout = record { size = block_bytes; count = 16; base = 1; ring = 4 }

-- the superblock in block 2 of an image, at index 1, and its map
abbrev pub taken_of : List ℕ → Taken
taken_of image = record {
  sb = block_of image block_bytes 2;
  at = 1;
  map = record { id = record { 0 = manager_id }; size = block_bytes; address = record { 0 = manager_block 4 } } ∷ [];
}

abbrev pub taken : Taken
taken = taken_of roomy

-- a claim about each index of the descriptor area
pub each_index : (P : ℕ → Type 0) → P 0 → P 1 → P 2 → P 3 → (j : ℕ) → j < 4 → P j
each_index P a b c d zero h = a
each_index P a b c d (suc zero) h = b
each_index P a b c d (suc (suc zero)) h = c
each_index P a b c d (suc (suc (suc zero))) h = d
each_index P a b c d (suc (suc (suc (suc j)))) h = absurd (omega arith)

-- the limit of a commit and a cut, at one index
abbrev pub LimitAt : List Store → List ℕ → ℕ → Type 0
LimitAt ss cut j =
    block_touched ss block_bytes (1 + j) ≡ true → sound (block_of cut block_bytes (1 + j)) ≡ true → xid_of (block_of cut block_bytes (1 + j)) < xid_of taken.sb

-- it is taken where it is the only sound one
module _ (image : List ℕ) where
  abbrev sound_at : ℕ → Bool
  sound_at j = sound (block_of image block_bytes (1 + j))

  pub takes_by : run (block_of image block_bytes) (take_superblock layout) ≡ given (taken_of image) → sound_at 0 ≡ false → sound_at 2 ≡ false → sound_at 3 ≡ false
      → Takes (block_of image block_bytes) layout (taken_of image)
  takes_by e a b c = record { taken = e; highest = λ j h ne s. absurd (true≢false (sym s ∙ only j h ne)) }
    where
      only : (j : ℕ) → j < 4 → j ≢ 1 → sound_at j ≡ false
      only = each_index (λ j. j ≢ 1 → sound_at j ≡ false) (λ _. a) (λ ne. absurd (ne refl)) (λ _. b) (λ _. c)

  -- and what touches none of the blocks that must stay keeps the rules
  abbrev pub rules_by : (ss : List Store) → run no_blocks (geometry (length image) (take least_size image) (length handed)) ≡ given layout
      → Takes (block_of image block_bytes) layout (taken_of image)
      → none_of (block_touched ss block_bytes) (kept (block_of image block_bytes) layout handed (taken_of image)) ≡ true
      → Rules image handed ss
  rules_by ss e t stay = record { g = layout; t = taken_of image; opens = e; takes = t; untouched = kept_enough (block_of image block_bytes) layout handed (taken_of image) t ss stay }

pub takes : Takes (block_of roomy block_bytes) layout taken
unfolding computed roomy
takes = takes_by roomy refl refl refl refl

pub stays : none_of (block_touched commit block_bytes) (kept (block_of roomy block_bytes) layout handed taken) ≡ true
unfolding computed visits roomy commit kept none_of touched touched_from block_touched
stays = refl

unfoldable pub rules : Rules roomy handed commit
unfolding computed roomy
rules = rules_by roomy commit refl takes stays

pub old_xid : (check roomy handed).answer.report.xid ≡ 7
unfolding computed roomy
old_xid = refl

pub new_xid : (check (finished commit roomy) handed).answer.report.xid ≡ 8
unfolding computed roomy commit overwrite finished
new_xid = refl

pub answers_differ : check (finished commit roomy) handed ≢ check roomy handed
answers_differ e = let same : ◌≡◌ {A = ℕ} 8 7 = sym new_xid ∙ (ap (λ r. r.answer.report.xid) e ∙ old_xid) in omega arith
