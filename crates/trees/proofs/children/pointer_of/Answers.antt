use Rattle.std.proofs.Common.{rules}
use Rattle.blocks.proofs.Laws.{at_ok, at_err}
use Rattle.trees.proofs.children.pointer_of.Goals as goal

pub returns-in_err-entry : goal.returns-in_err-entry
returns-in_err-entry c = λ f. search (rules, at_err, c.entry.ensures f, c.in_err-entry.was)

pub returns : goal.returns
returns c = λ f. search (rules, at_ok, c.entry.ensures f, c.in_ok-entry.was, c.pointer.ensures f)
