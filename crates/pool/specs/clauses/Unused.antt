-- Steps of the count of pool blocks marked but unused.
use Rattle.std.specs.Prelude.{ℕ, ◌+◌, ◌*◌, ◌/◌, ◌≤◌, min, Bool, not, ◌&&◌, List}
use Rattle.fields.specs.Choice.{pick}
use Rattle.blocks.specs.declared.Container.{Container}
use Rattle.block_map.specs.BlockMap.{used_at}

-- 1 where block a is marked, as its bit says, but unused
unfoldable pub unused_one : Container → List ℕ → Bool → ℕ → ℕ
unused_one c map marked a = pick (marked && not (used_at c map a)) 1 0

-- the end of the blocks whose bits are in the byte of block i's, of so many
abbrev pub byte_end : ℕ → ℕ → ℕ
byte_end i blocks = min (i / 8 * 8 + 8) blocks

-- the end of a piece of as many blocks from i on as a bitmap's block of the smallest size has bits, of so many
abbrev pub piece_end : ℕ → ℕ → ℕ
piece_end i blocks = min (i + 32768) blocks

-- places from first to end, of so many; no more were counted before them than there are
pub record Places (first end counted blocks : ℕ) : Type 0 where
  pub some : first ≤ end
  pub inside : end ≤ blocks
  pub few : counted ≤ first

-- places whose bits are in one byte
abbrev pub OneByte : ℕ → ℕ → Type 0
OneByte first end = end ≤ first / 8 * 8 + 8
