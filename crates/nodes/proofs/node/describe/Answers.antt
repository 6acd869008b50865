use Rattle.nodes.proofs.Laws.{describe_other, describe_root}
use borrow.Author.Tests.{not-true, not-false}
use mathlib.Core.Path.{sym, ◌∙◌}
use mathlib.Core.Path.{ap}
use mathlib.Core.Bool.{not}
use Rattle.nodes.proofs.node.describe.Goals as goal

pub returns-then-not-is_root : goal.returns-then-not-is_root
returns-then-not-is_root c = λ f. sym (describe_other f _ (sym c.is_root.ensures ∙ not-true _ (ap not c.if-not-is_root.true)))

pub returns : goal.returns
returns c = let start = c in
    λ f. sym (describe_root f _ _ c.description_at-at.ensures (sym start.is_root.ensures ∙ not-false _ (ap not start.if-not-is_root.false)) _ c.u32_of-flags.ensures.is c.u32_of-key.ensures.is c.u32_of-value.ensures.is)
