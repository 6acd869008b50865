use mathlib.Core.Path.{sym, ◌∙◌}
use Rattle.totals.proofs.Laws.{zeros_count}
use Rattle.totals.proofs.counts_of.Goals as goal

pub returns-then-is_zero : goal.returns-then-is_zero
returns-then-is_zero c = zeros_count _ (sym c.is_zero.ensures ∙ c.if-is_zero.true)
