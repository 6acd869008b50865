use mathlib.Core.Path.{sym, ◌∙◌}
use Rattle.totals.specs.clauses.Counting.{lost_kind}
use Rattle.totals.proofs.lost_kind.Goals as goal

pub returns-then-is_marked : goal.returns-then-is_marked
unfolding lost_kind
returns-then-is_marked c = rw (sym c.is_marked.ensures ∙ c.if-is_marked.true)

pub returns-else-is_marked : goal.returns-else-is_marked
unfolding lost_kind
returns-else-is_marked c = c.owner.ensures ∙ rw (sym c.is_marked.ensures ∙ c.if-is_marked.false)
