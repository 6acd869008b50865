use native.Mathlib.Omega.{arith}
use Rattle.nodes.proofs.Laws.{value_end_root, value_end_other}
use mathlib.Core.Path.{sym, ◌∙◌}
use Rattle.nodes.proofs.node.value_end.Goals as goal

pub returns-then-is_root : goal.returns-then-is_root
returns-then-is_root c = (c.description_at-less.ensures ∙ sym (value_end_root _ (sym c.is_root.ensures ∙ c.if-is_root.true)), omega arith)

pub returns-else-is_root : goal.returns-else-is_root
returns-else-is_root c = (sym (value_end_other _ (sym c.is_root.ensures ∙ c.if-is_root.false)), omega arith)
