-- A commit is a list of stores, of any length, at any byte, in any order, overlapping or not.
use Rattle.std.specs.Prelude.{◌≡◌, Bool, true, false, not, ◌&&◌, ◌||◌, List, [], ◌∷◌, ℕ, zero, suc, ◌+◌, ◌-◌, ◌*◌, leb, ltb, eqb, length, get_or}
use Rattle.fields.specs.Choice.{pick}

pub record Store : Type 0 where
  pub at : ℕ
  pub bytes : List ℕ

-- "A store touches each byte it covers"
abbrev pub covers : Store → ℕ → Bool
covers s i = leb s.at i && ltb i (s.at + length s.bytes)

unfoldable pub touched : List Store → ℕ → Bool
touched [] i = false
touched (s ∷ ss) i = covers s i || touched ss i

-- some byte of block n is touched
unfoldable pub touched_from : List Store → ℕ → ℕ → Bool
touched_from ss zero i = false
touched_from ss (suc left) i = touched ss i || touched_from ss left (i + 1)

unfoldable pub block_touched : List Store → ℕ → ℕ → Bool
block_touched ss size n = touched_from ss size (n * size)

-- "a byte's final content is what the last store to cover it writes there": x before the stores
unfoldable pub final_byte : List Store → ℕ → ℕ → ℕ
final_byte [] i x = x
final_byte (s ∷ ss) i x = final_byte ss i (pick (covers s i) (get_or s.bytes (i - s.at) 0) x)

-- bytes written from a place on; what would lie past the image's end is lost, so that "the writer keeps the image length"
unfoldable pub overwrite : ℕ → List ℕ → List ℕ → List ℕ
overwrite at bytes [] = []
overwrite zero [] (x ∷ image) = x ∷ image
overwrite zero (b ∷ bytes) (x ∷ image) = b ∷ overwrite zero bytes image
overwrite (suc at) bytes (x ∷ image) = x ∷ overwrite at bytes image

-- the finished image: every store applied, in order
unfoldable pub finished : List Store → List ℕ → List ℕ
finished [] image = image
finished (s ∷ ss) image = finished ss (overwrite s.at s.bytes image)

-- "At a cut, in whichever store, a touched byte may hold anything and any other holds what it held in run one"
pub record CutOf (ss : List Store) (image cut : List ℕ) : Type 0 where
  pub same_length : length cut ≡ length image
  pub kept : (i : ℕ) → touched ss i ≡ false → get_or cut i 0 ≡ get_or image i 0

-- "the last store is complete when every touched byte holds its final content": of the bytes from i on
unfoldable pub complete_from : List Store → ℕ → List ℕ → Bool
complete_from ss i [] = true
complete_from ss i (x ∷ cut) = (not (touched ss i) || eqb x (final_byte ss i 0)) && complete_from ss (i + 1) cut

abbrev pub complete : List Store → List ℕ → Bool
complete ss cut = complete_from ss 0 cut
