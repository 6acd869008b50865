-- The steps of the count over the final block map.
use Rattle.std.specs.Prelude.{Bool, List, [], ◌∷◌, ℕ, ◌+◌, ◌-◌, ◌^◌, ◌<◌, eqb, length, get_or}
use Rattle.fields.specs.Choice.{pick}
use Rattle.block_map.specs.BlockMap.{owner_of, is_marked, is_used, count_in}
use Rattle.block_map.specs.clauses.Rows.{greatest_in}
use Rattle.report.specs.Report.{kinds}
use Rattle.report.specs.declared.Lost.{Lost}
use Rattle.totals.specs.Totals.{unowned, is_lost, lost_from, is_leaked}
use Rattle.totals.specs.declared.Counts.{Counts}
use Rattle.totals.specs.declared.Totals.{Totals}

abbrev pub first_kind : ℕ
first_kind = 1

-- all that the report counts on the bytes of the container's blocks
abbrev pub totals_of : List ℕ → Totals
totals_of cells = record { used = count_in is_used cells 0; leaked = count_in is_leaked cells 0; lost = lost_from cells kinds first_kind }

-- the kind that lost a byte's block, or unowned
unfoldable pub lost_kind : ℕ → ℕ
lost_kind x = pick (is_marked x) unowned (owner_of x)

abbrev pub no_lost : Lost
no_lost = record { count = 0; first = 0 }

-- block i lost after those of l
abbrev pub one_more : ℕ → Lost → Lost
one_more i l = record { count = l.count + 1; first = pick (eqb l.count 0) i l.first }

-- lost blocks along the bytes, of which block i has the first, after those of l
unfoldable pub lost_along : (ℕ → Bool) → List ℕ → ℕ → Lost → Lost
lost_along test [] i l = l
lost_along test (x ∷ xs) i l = lost_along test xs (i + 1) (pick (test x) (one_more i l) l)

-- those of each kind, from kind k on
unfoldable pub lost_after : List ℕ → ℕ → ℕ → List Lost → List Lost
lost_after xs i k [] = []
lost_after xs i k (l ∷ ls) = lost_along (is_lost k) xs i l ∷ lost_after xs i (k + 1) ls

-- of a row: blocks used, blocks leaked, and the greatest kind that lost one, or unowned
abbrev pub counts_in : List ℕ → Counts
counts_in row = record { used = count_in is_used row 0; leaked = count_in is_leaked row 0; lost = greatest_in lost_kind row 0 }

-- a row's block numbers, and the counts with its bytes, are in a u64's range
pub record Room (row : List ℕ) (start : ℕ) (before : List Lost) : Type 0 where
  pub blocks : start + length row < 2 ^ 64
  pub counts : (j : ℕ) → (get_or before j no_lost).count + length row < 2 ^ 64 - 1
