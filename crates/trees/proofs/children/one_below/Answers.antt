use mathlib.Core.Path.{sym, ap, ◌∙◌}
use Rattle.nodes.specs.Node.{level_of}
use Rattle.trees.proofs.ChildLaws.{below_one, below_other}
use Rattle.trees.proofs.children.one_below.Goals as goal

pub returns-then-level : goal.returns-then-level
returns-then-level c = sym (below_one _ _ _ _ (c.level.ensures.0 ∙ ap level_of c.block-child.ensures) c.if-level.true)

pub returns-else-level : goal.returns-else-level
returns-else-level c = sym (below_other _ _ _ _ (c.level.ensures.0 ∙ ap level_of c.block-child.ensures) c.if-level.false)
