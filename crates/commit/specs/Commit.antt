-- Run one checks before a commit, run two after the writer was cut. This page is all that the theorem assumes and says;
-- proofs/Crash.antt proves it.
--
-- Not assumed: that the bytes of a store arrive in order, or one store before another; that a torn block holds old or new
-- bytes; that stores are aligned to blocks, or lie inside the image; that the last store is a superblock.
use Rattle.std.specs.Prelude.{◌≡◌, true, false, List, [], ◌∷◌, ◌≢◌, ℕ, ◌+◌, ◌≤◌, ◌<◌, eqb, length, take}
use Rattle.fields.specs.Choice.{pick}
use Rattle.fields.specs.Header.{xid_of}
use Rattle.blocks.specs.Reads.{run, no_blocks, visits, given}
use Rattle.blocks.specs.Blocks.{block_of}
use Rattle.checkpoint.specs.Superblock.{sound}
use Rattle.checkpoint.specs.Geometry.{geometry, least_size}
use Rattle.checkpoint.specs.Checkpoint.{Taken, take_superblock}
use Rattle.checkpoint.specs.declared.Geometry.{Geometry}
use Rattle.space_check.specs.Check.{Result, check, pass}
use Rattle.commit.specs.Stores.{Store, CutOf, block_touched, finished, complete}

-- "Run one takes the only sound superblock with the highest xid": t is the one taken, of block 0's descriptor area
pub record Takes (f : ℕ → List ℕ) (g : Geometry) (t : Taken) : Type 0 where
  pub taken : run f (take_superblock g) ≡ given t
  pub highest : (j : ℕ) → j < g.ring → j ≢ t.at → sound (f (g.base + j)) ≡ true → xid_of (f (g.base + j)) < xid_of t.sb

-- the blocks that a pass reads, each as often as it is read; "a refused pass, only those it read up to its refusal". Document 02:
-- "Address blocks join the blocks a cut writer may not touch"; "Every block these readings visit joins the blocks a cut writer may
-- not touch", those of the volumes: the pass reads them
unfoldable pub blocks_read : (ℕ → List ℕ) → Geometry → List ℕ → List ℕ
blocks_read f g map = 0 ∷ visits f (pass g map)

unfoldable pub times_read : ℕ → List ℕ → ℕ
times_read n [] = 0
times_read n (m ∷ reads) = pick (eqb n m) 1 0 + times_read n reads

-- "descriptor blocks, other than the taken superblock's, read in no second role"
pub record Excepted (g : Geometry) (t : Taken) (reads : List ℕ) (n : ℕ) : Type 0 where
  -- in the area that block 0 names
  pub descriptor : (g.base ≤ n) × (n < g.base + g.ring)
  pub other : n ≢ g.base + t.at
  -- the search for superblocks, its first role, reads each block of the area once; in a second role it is read again
  pub once : times_read n reads ≡ 1

-- "touches none of the blocks read except" those. proofs/Roles.antt: that is, block 0, the taken superblock's block, its map blocks
-- and all that is read once it is taken stay as they are
abbrev pub TouchesNoneRead : List Store → Geometry → Taken → List ℕ → Type 0
TouchesNoneRead ss g t reads = (n : ℕ) → 0 < times_read n reads → block_touched ss g.size n ≡ true → Excepted g t reads n

-- document 01's commit rules, for an image, the block map that both runs get, and a commit
pub record Rules (image map : List ℕ) (ss : List Store) : Type 0 where
  pub g : Geometry
  pub t : Taken
  pub opens : run no_blocks (geometry (length image) (take least_size image) (length map)) ≡ given g
  pub takes : Takes (block_of image g.size) g t
  pub untouched : TouchesNoneRead ss g t (blocks_read (block_of image g.size) g map)

-- "no touched descriptor block passes as sound with an xid at or above run one's"
unfoldable pub Limit : List Store → Geometry → Taken → List ℕ → Type 0
Limit ss g t cut =
    (j : ℕ)
    → j < g.ring
    → block_touched ss g.size (g.base + j) ≡ true
    → sound (block_of cut g.size (g.base + j)) ≡ true
    → xid_of (block_of cut g.size (g.base + j)) < xid_of t.sb

-- "Both runs get equal maps." Run one has no cut before it: its half of the equation holds by definition, and run two's is proved
pub record Runs : Type 0 where
  pub one : Result
  pub two : Result

unfoldable pub runs : List ℕ → List ℕ → List ℕ → Runs
runs image cut map = record { one = check image map; two = check cut map }

-- until the last store is complete both give the old image's answer and map; from then on run two gives the finished image's
unfoldable pub promised : List Store → List ℕ → List ℕ → List ℕ → Runs
promised ss image cut map = record { one = check image map; two = check (pick (complete ss cut) (finished ss image) image) map }

-- the theorem: for every image, map and commit that keep the rules, and every cut
abbrev pub Crash : Type 0
Crash =
    (image map : List ℕ) (ss : List Store) (r : Rules image map ss) (cut : List ℕ)
    → CutOf ss image cut
    → (complete ss cut ≡ false → Limit ss r.g r.t cut)
    → runs image cut map ≡ promised ss image cut map
