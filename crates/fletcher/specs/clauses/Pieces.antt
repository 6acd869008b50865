-- What adding a piece of an object does to the sums.
use Rattle.std.specs.Prelude.{List, ◌++◌, ◌≡◌, ℕ, ◌+◌, ◌*◌, ◌/◌, ◌%◌, ◌≤◌, ◌<◌, ◌^◌, length, take, get_or}
use Rattle.fletcher.specs.Fletcher.{M, word, fletcher}
use Rattle.fletcher.specs.declared.Sums.{Sums}

abbrev pub word_at : List ℕ → ℕ → ℕ
word_at b at = word (get_or b at 0) (get_or b (at + 1) 0) (get_or b (at + 2) 0) (get_or b (at + 3) 0)

abbrev pub plus_word : Sums → ℕ → Sums
plus_word x w = record { s = x.s + w; t = x.t + (x.s + w) }

-- a piece's whole words; what is left at its end isn't looked at
unfoldable pub words : List ℕ → List ℕ
words piece = take (length piece / 4 * 4) piece

-- reduced modulo M
pub record Reduced (sums : Sums) : Type 0 where
  pub s_fits : sums.s < M
  pub t_fits : sums.t < M

-- r stands for the sums after a piece: whatever follows goes on from r as from the sums before the piece
pub record Added (piece : List ℕ) (sums r : Sums) : Type 0 where
  pub onward : (rest : List ℕ) → fletcher rest r.s r.t ≡ fletcher (words piece ++ rest) sums.s sums.t
  pub fits : Reduced r

-- r has the word at a place added
pub record Plus (b : List ℕ) (at : ℕ) (sums r : Sums) : Type 0 where
  pub is : r ≡ plus_word sums (word_at b at)
  pub s_most : r.s < sums.s + 2 ^ 32
  pub t_most : r.t < sums.t + (sums.s + 2 ^ 32)

-- two halves of whole words, short enough for one reduction at the end
pub record Halves (first second : List ℕ) : Type 0 where
  pub pairs : length first % 8 ≡ 0
  pub most : length first ≤ 2048
  pub same : length second ≡ length first
