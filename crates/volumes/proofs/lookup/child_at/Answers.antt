use mathlib.Core.Path.{sym, ap, ◌∙◌}
use Rattle.blocks.specs.Reads.{run}
use Rattle.blocks.proofs.Laws.{at_err, at_ok, is_given}
use Rattle.nodes.proofs.Laws.{node_given}
use Rattle.volumes.proofs.LookupLaws.{child_pointed}
use Rattle.volumes.proofs.lookup.child_at.Goals as goal

pub returns-in_err-pointer_of : goal.returns-in_err-pointer_of
returns-in_err-pointer_of c = at_err _ _ _ _ (c.pointer_of.ensures _) _ _ _ c.in_err-pointer_of.was _ c.from_residual.ensures.1 ∙ ap (run _) (child_pointed _ _ _ _ _)

pub returns-in_err-read_node : goal.returns-in_err-read_node
returns-in_err-read_node c = at_ok _ _ _ _ (c.pointer_of.ensures _) _ _ c.in_ok-pointer_of.was _ (at_err _ _ _ _ c.read_node.ensures _ _ _ c.in_err-read_node.was _ c.from_residual-in_err-read_node.ensures.1) ∙ ap (run _) (child_pointed _ _ _ _ _)

pub returns : goal.returns
returns c =
    at_ok _ _ _ _ (c.pointer_of.ensures _) _ _ c.in_ok-pointer_of.was _ (at_ok _ _ _ _ c.read_node.ensures _ _ c.in_ok-read_node.was _ (rw (sym (node_given _ _ _ _ (is_given _ _ _ _ c.read_node.ensures _ c.in_ok-read_node.was))) at c.one_below.ensures)) ∙ ap (run _) (child_pointed _ _ _ _ _)
