-- Sets of indices of 16 bits: a bit for each.
use Rattle.std.specs.Prelude.{◌≡◌, ◌||◌, List, ℕ, ◌<◌, ◌^◌, eqb, length}
use Rattle.fields.specs.Fields.{bit_at}
use Rattle.free_ring.specs.Ring.{is_in}

-- a bit for each index of 16 bits
abbrev pub set_bytes : ℕ
set_bytes = 8192

-- bits with bit i set, and no other changed
pub record Put (before : List ℕ) (i : ℕ) (after : List ℕ) : Type 0 where
  pub bits : (j : ℕ) → bit_at after j ≡ (eqb j i || bit_at before j)
  pub as_long : length after ≡ length before

-- the bits that are set are the indices of a list
pub record SetOf (bits is : List ℕ) : Type 0 where
  pub same : (j : ℕ) → j < 2 ^ 16 → bit_at bits j ≡ is_in j is
  pub wide : length bits ≡ set_bytes
