-- What the readers of fields give.
use Rattle.std.specs.Prelude.{◌≡◌, List, ℕ, ◌*◌, ◌^◌, ◌<◌, Option, Some}
use Rattle.fields.specs.Fields.{num, field_at}

-- the number in the w bytes from off on, and that it fits them
pub record NumberAt (w : ℕ) (b : List ℕ) (off r : ℕ) : Type 0 where
  pub is : r ≡ num w b off
  pub fits : r < 2 ^ (8 * w)

pub record FieldOf (w : ℕ) (b : List ℕ) (off : ℕ) (r : Option ℕ) : Type 0 where
  pub is : r ≡ field_at w b off
  pub fits : (v : ℕ) → r ≡ Some v → v < 2 ^ (8 * w)
