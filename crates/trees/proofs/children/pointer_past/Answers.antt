use Rattle.std.proofs.Common.{rules}
use Rattle.blocks.proofs.Laws.{at_ok, at_err}
use Rattle.nodes.specs.Scan.{pointer_past}
use Rattle.trees.proofs.children.pointer_past.Goals as goal

pub returns-in_err-entry : goal.returns-in_err-entry
unfolding pointer_past
returns-in_err-entry c = λ f. search (rules, at_err, c.entry.ensures f, c.in_err-entry.was)

pub returns-in_err-look_at : goal.returns-in_err-look_at
unfolding pointer_past
returns-in_err-look_at c = λ f. search (rules, at_ok, at_err, c.entry.ensures f, c.in_ok-entry.was, c.look_at.ensures f, c.in_err-look_at.was)

pub returns : goal.returns
unfolding pointer_past
returns c = λ f. at_ok _ _ f _ (c.entry.ensures f) _ _ c.in_ok-entry.was _ (at_ok _ _ f _ (c.look_at.ensures f) _ _ c.in_ok-look_at.was _ (c.pointer.ensures f))
