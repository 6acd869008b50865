use mathlib.Core.Path.{sym, ◌∙◌}
use native.Mathlib.Omega.{arith}
use borrow.Author.Tests.{eqb-true, eqb-false}
use Rattle.totals.specs.Totals.{lost_in}
use Rattle.totals.proofs.Laws.{verdict_clean, verdict_found}
use Rattle.totals.proofs.verdict.Goals.{then-overlaps-ne0-via-then-overlaps-ne0, then-overlaps-ne0-via-else-overlaps-ne0+then-problems-ne0}
use Rattle.totals.proofs.verdict.Goals as goal

pub returns-then-overlaps-ne0 : goal.returns-then-overlaps-ne0
returns-then-overlaps-ne0 c = verdict_found _ _ _ (λ e. elim c.then-overlaps-ne0.branch [ then-overlaps-ne0-via-then-overlaps-ne0 w ↦ omega arith | then-overlaps-ne0-via-else-overlaps-ne0+then-problems-ne0 w ↦ omega arith ])

pub returns-then-none_lost : goal.returns-then-none_lost
returns-then-none_lost c = verdict_clean _ _ _ (eqb-true _ _ (sym c.none_lost.ensures ∙ c.if-none_lost.true)) (omega arith) c.if-problems-ne0.false

pub returns-else-none_lost : goal.returns-else-none_lost
returns-else-none_lost c = verdict_found _ _ _ (λ e. eqb-false (lost_in c.args.lost 0) 0 (sym c.none_lost.ensures ∙ c.if-none_lost.false) (omega arith))
