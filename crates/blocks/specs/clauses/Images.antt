-- Slices as they are lent, the image among them, and passes over its blocks.
use Rattle.std.specs.Prelude.{List, ◌≡◌, ℕ, ◌*◌, ◌%◌, ◌≤◌, ◌<◌, length}
use Rattle.std.specs.Borrow.{Bor}
use denote.MutBor.{MutBor}
use denote.Triple.Both.{Both}
use Rattle.blocks.specs.Reads.{Reads}
use Rattle.blocks.specs.Blocks.{block_of}
use Rattle.blocks.specs.declared.Container.{Container}

-- a slice in a contract: as it was lent, and as it was given back
abbrev pub Lent : Type 0
Lent = Both (Bor (List ℕ)) (Bor (List ℕ))

-- what it held when it was lent
abbrev pub bytes : Lent → List ℕ
bytes s = s.entry.now

-- a slice that is lent to be written, the block map among them: as it was lent, and as it was given back
abbrev pub LentMut : Type 0
LentMut = Both (MutBor (List ℕ)) (MutBor (List ℕ))

-- what it held when it was lent
abbrev pub bytes_lent : LentMut → List ℕ
bytes_lent s = s.entry.now

-- the blocks of an image, by their numbers
abbrev pub blocks_in : Bor (List ℕ) → Container → ℕ → List ℕ
blocks_in image c = block_of image.now c.size

-- a pass over the blocks of an image, from a state
abbrev pub Pass : Type 0 → Type 0 → Type 0
Pass A B = (ℕ → List ℕ) → A → Reads B

-- an image that has every block of a container: what refusals 3 and 5 leave
pub record Holds (image : List ℕ) (c : Container) : Type 0 where
  pub some : 0 < c.size
  pub words : c.size % 4 ≡ 0
  pub fits : c.count * c.size ≤ length image
