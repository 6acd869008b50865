use Rattle.std.proofs.Common.{rules}
use Rattle.blocks.proofs.Laws.{at_ok, at_err}
use Rattle.blocks.specs.Reads.{run}
use Rattle.trees.proofs.ChildLaws.{look_none, look_some}
use mathlib.Core.Path.{refl, sym, ◌∙◌}
use Rattle.trees.proofs.children.look_at.Goals as goal

pub returns-then-left-eq0 : goal.returns-then-left-eq0
returns-then-left-eq0 c = λ f. sym (look_none f _ _ _ _ c.if-left-eq0.true)

pub returns-in_err-entry : goal.returns-in_err-entry
returns-in_err-entry c = λ f. search (rules, at_err, c.entry.ensures f, c.in_err-entry.was) ∙ sym (look_some f _ _ _ _ c.if-left-eq0.false)

pub returns : goal.returns
unfolding run
returns c = λ f. at_ok _ _ f _ (c.entry.ensures f) _ _ c.in_ok-entry.was _ refl ∙ sym (look_some f _ _ _ _ c.if-left-eq0.false)
