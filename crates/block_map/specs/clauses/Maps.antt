-- What steps may do to a block map.
use Rattle.std.specs.Prelude.{Bool, true, false, List, ◌≡◌, ℕ, length, drop}
use Rattle.blocks.specs.Reads.{Reads, run, given}
use Rattle.block_map.specs.BlockMap.{Marked}

-- bytes past the block count are the caller's
pub record Kept (count : ℕ) (before after : List ℕ) : Type 0 where
  pub long : length after ≡ length before
  pub past : drop count after ≡ drop count before

-- a step that is made only where it logs nothing: r says whether it was, whatever was logged before; where it was not, nothing is changed
pub record Unlogged {F : Type 0} (f : ℕ → List ℕ) (count : ℕ) (r : Bool) (before after : List ℕ) (defined : Marked F → Reads (Marked F)) : Type 0 where
  pub made : r ≡ true → (figures : F) → run f (defined (record { map = before; figures = figures })) ≡ given (record { map = after; figures = figures })
  pub left : r ≡ false → after ≡ before
  pub kept : Kept count before after
