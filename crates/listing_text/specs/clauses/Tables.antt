-- Texts in one table, by their numbers; and such a table as one list of bytes: rows, each with a newline behind it.
use Rattle.std.specs.Prelude.{ℕ, zero, suc, ◌+◌, List, [], ◌∷◌, take, ◌==◌, slice_index_or}
use Rattle.fields.specs.Choice.{pick}

-- the text of a number, none where the table has no such number
abbrev pub text_of : List (List ℕ) → ℕ → List ℕ
text_of texts k = slice_index_or texts k []

abbrev pub newline : ℕ
newline = 10

-- what follows the first row, and the first k
unfoldable pub past_row : List ℕ → List ℕ
past_row [] = []
past_row (c ∷ cs) = pick (c == newline) cs (past_row cs)

unfoldable pub rows_from : ℕ → List ℕ → List ℕ
rows_from zero rows = rows
rows_from (suc k) rows = rows_from k (past_row rows)

-- the bytes of the first row
unfoldable pub row_length : List ℕ → ℕ
row_length [] = 0
row_length (c ∷ cs) = pick (c == newline) 0 (row_length cs + 1)

unfoldable pub row_of : ℕ → List ℕ → List ℕ
row_of k rows = take (row_length (rows_from k rows)) (rows_from k rows)
