-- Numbers stored in a row.
use Rattle.std.specs.Prelude.{Bool, List, [], ◌∷◌, ◌≡◌, ℕ, suc, ◌+◌, length, set}
use Rattle.fields.specs.Choice.{pick}
use Rattle.report.specs.declared.Lost.{Lost}
use Rattle.interface.specs.Places.{verdict_at}
use Rattle.interface.specs.Figures.{lost_count, lost_first}

-- numbers in a row from a place on, as far as the list goes
unfoldable pub stored : List ℕ → ℕ → List ℕ → List ℕ
stored l at [] = l
stored l at (x ∷ xs) = stored (set l at x) (suc at) xs

-- a row was stored from one place up to another
abbrev pub Stores : List ℕ → List ℕ → ℕ → ℕ → List ℕ → Type 0
Stores before after from to row = (from + length row ≡ to) × (after ≡ stored before from row)

-- how many blocks of a kind are lost, or the first of them
abbrev pub lost_number : Bool → Lost → ℕ
lost_number first l = pick first (lost_first l) (lost_count l)

-- where the base's numbers end
abbrev pub later_at : ℕ
later_at = verdict_at + 1
