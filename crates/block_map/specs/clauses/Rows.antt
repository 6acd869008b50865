-- Rows of the block map: bytes that are looked at together.
use Rattle.std.specs.Prelude.{Bool, true, ◌&&◌, List, [], ◌∷◌, ℕ, max, eqb}

-- the greatest of what f gives for each byte, and at least g
unfoldable pub greatest_in : (ℕ → ℕ) → List ℕ → ℕ → ℕ
greatest_in f [] g = g
greatest_in f (x ∷ xs) g = greatest_in f xs (max g (f x))

abbrev pub itself : ℕ → ℕ
itself x = x

unfoldable pub all_zero : List ℕ → Bool
all_zero [] = true
all_zero (x ∷ xs) = eqb x 0 && all_zero xs
