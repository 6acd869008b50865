use mathlib.Core.Path.{sym, ◌∙◌}
use Rattle.trees.proofs.WalkLaws.{next_deep, next_many, next_read}
use Rattle.trees.proofs.walks.read_next.Goals.{then-levels-eq0-via-then-levels-eq0, then-levels-eq0-via-else-levels-eq0+then-left-eq0}
use Rattle.trees.proofs.walks.read_next.Goals as goal

pub returns-then-levels-eq0 : goal.returns-then-levels-eq0
returns-then-levels-eq0 c = sym (elim c.then-levels-eq0.branch [
  | then-levels-eq0-via-then-levels-eq0 w ↦ next_deep _ _ _ _ _ w.if-levels-eq0.true
  | then-levels-eq0-via-else-levels-eq0+then-left-eq0 w ↦ next_many _ _ _ _ _ w.if-levels-eq0.false w.if-left-eq0.true
])

pub returns : goal.returns
returns c = c.read_node.ensures ∙ sym (next_read _ _ _ _ _ c.if-levels-eq0.false c.if-left-eq0.false)
