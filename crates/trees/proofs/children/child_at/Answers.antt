use Rattle.std.proofs.Common.{rules}
use Rattle.blocks.specs.clauses.Images.{blocks_in}
use Rattle.blocks.proofs.Laws.{at_ok, at_err, is_given}
use Rattle.trees.specs.clauses.Visits.{child_below}
use Rattle.trees.proofs.ReadLaws.{pointer_known}
use Rattle.trees.proofs.children.child_at.Goals as goal

pub returns-in_err-pointer : goal.returns-in_err-pointer
unfolding child_below
returns-in_err-pointer g c = search (rules, at_err, c.pointer_past.ensures (blocks_in c.args.image c.args.tree.checkpoint.container), c.in_err-pointer.was)

pub child-requires : goal.child-requires
child-requires g c = pointer_known _ _ (g.V.Visitor.plan c.args.visitor c.args.tree.checkpoint) _ _ _ _ _ c.requires.1 (is_given _ _ _ _ (c.pointer_past.ensures _) _ c.in_ok-pointer.was)

pub returns-in_err-address : goal.returns-in_err-address
unfolding child_below
returns-in_err-address g c = search (rules, at_ok, at_err, c.pointer_past.ensures (blocks_in c.args.image c.args.tree.checkpoint.container), c.in_ok-pointer.was, c.child.ensures, c.in_err-address.was)

pub returns : goal.returns
unfolding child_below
returns g c = search (rules, at_ok, c.pointer_past.ensures (blocks_in c.args.image c.args.tree.checkpoint.container), c.in_ok-pointer.was, c.child.ensures, c.in_ok-address.was, c.one_below.ensures)
