use Rattle.blocks.specs.Reads.{run}
use Rattle.blocks.proofs.Laws.{at_err, at_ok, need_false, need_true}
use Rattle.nodes.specs.ObjectMap.{describe_map}
use borrow.Author.Tests.{not-true, not-false}
use mathlib.Core.Path.{sym, ap, ◌∙◌}
use mathlib.Core.Bool.{not}
use Rattle.nodes.proofs.object_map.describe_map.Goals as goal

pub returns-in_err-description : goal.returns-in_err-description
unfolding describe_map
returns-in_err-description c = λ f. at_err _ _ f _ (c.describe.ensures f) _ _ _ c.in_err-description.was _ c.from_residual.ensures.1

pub returns-then-not-is_map : goal.returns-then-not-is_map
unfolding describe_map
returns-then-not-is_map c = λ f. at_ok _ _ f _ (c.describe.ensures f) _ _ c.in_ok-description.was _ (sym (need_false f _ _ _ (sym c.is_map.ensures ∙ not-true _ (ap not c.if-not-is_map.true))))

pub returns : goal.returns
unfolding describe_map run
returns c = λ f. at_ok _ _ f _ (c.describe.ensures f) _ _ c.in_ok-description.was _ (sym (need_true f _ _ _ (sym c.is_map.ensures ∙ not-false _ (ap not c.if-not-is_map.false))))
