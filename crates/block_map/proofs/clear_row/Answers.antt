use mathlib.Core.Path.{sym, ◌∙◌}
use Rattle.block_map.proofs.Rows.{zero_row}
use Rattle.block_map.proofs.clear_row.Goals as goal

pub returns-then-is_zero : goal.returns-then-is_zero
returns-then-is_zero c = zero_row _ (sym c.is_zero.ensures ∙ c.if-is_zero.true)
