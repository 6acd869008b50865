use mathlib.Core.Path.{sym, ◌∙◌}
use borrow.Author.Tests.{eq-eqb, ne_eqb}
use Rattle.totals.specs.Totals.{is_leaked}
use Rattle.totals.proofs.is_leaked.Goals as goal

pub returns-then-owner-eq-UNOWNED : goal.returns-then-owner-eq-UNOWNED
unfolding is_leaked
returns-then-owner-eq-UNOWNED c = c.is_marked.ensures ∙ rw (eq-eqb _ _ (sym c.owner.ensures ∙ c.if-owner-eq-UNOWNED.true))

pub returns-else-owner-eq-UNOWNED : goal.returns-else-owner-eq-UNOWNED
unfolding is_leaked
returns-else-owner-eq-UNOWNED c = rw (← c.owner.ensures, ne_eqb _ _ c.if-owner-eq-UNOWNED.false)
