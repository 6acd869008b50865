-- Text in ASCII, and numbers in their shortest form.
use Rattle.std.specs.Prelude.{◌≡◌, ℕ, zero, suc, ◌+◌, ◌-◌, ◌/◌, ◌%◌, ◌^◌, ◌<◌, ◌≤◌, List, [], ◌∷◌, length, nat_lt, slice_index}
use Prim.Native.String.{String}
use Prim.Native.String as string
use Prim.Native.Char.{code}
use Rattle.fields.specs.Choice.{pick}

-- the bytes of a text in ASCII
abbrev pub ascii : String → List ℕ
ascii string.[] = []
ascii (string.◌∷◌ c s) = code c ∷ ascii s

-- the digit of a value below 16
abbrev pub glyph : ℕ → ℕ
glyph value = slice_index (ascii "0123456789abcdef") value

-- the last k digits of n in a base, from the highest place down: that of place i, from 0 on, has the value n / base ^ i % base
unfoldable pub digits : ℕ → ℕ → ℕ → List ℕ
digits base zero n = []
digits base (suc k) n = glyph (n / base ^ k % base) ∷ digits base k n

-- the least k, from a number on, such that n is below base ^ k; after so many more the next is taken untested
unfoldable pub places_from : ℕ → ℕ → ℕ → ℕ → ℕ
places_from zero k base n = k
places_from (suc more) k base n = pick (nat_lt n (base ^ k)) k (places_from more (k + 1) base n)

-- no number of 64 bits has more digits in a base from 10 on
abbrev pub most_digits : ℕ
most_digits = 20

-- how many digits a number below 2^64 has in such a base: one at least
unfoldable pub places : ℕ → ℕ → ℕ
places base n = places_from (most_digits - 1) 1 base n

-- it in its shortest form
unfoldable pub numeral : ℕ → ℕ → List ℕ
numeral base n = digits base (places base n) n

abbrev pub decimal : ℕ → List ℕ
decimal n = numeral 10 n

abbrev pub hex : ℕ → List ℕ
hex n = numeral 16 n

-- so many places hold a number, one at least, as 0 has, and no smaller number of them does
pub record Fewest (base n k : ℕ) : Type 0 where
  pub some : 1 ≤ k
  pub enough : n < base ^ k
  pub fewer : (j : ℕ) → 1 ≤ j → j < k → base ^ j ≤ n

-- document 02: "exactly its digits in their shortest form". A numeral is this of its number, a base from 10 on and a number below
-- 2^64, and nothing else is (`shortest`, `shortest_alone`, proofs/Digits.antt).
abbrev pub Shortest : ℕ → ℕ → List ℕ → Type 0
Shortest base n text = (text ≡ digits base (length text) n) × Fewest base n (length text)
