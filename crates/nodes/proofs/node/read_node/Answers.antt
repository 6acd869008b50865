use Rattle.blocks.proofs.Laws.{at_err, at_ok, is_given}
use Rattle.nodes.specs.Node.{read_node}
use mathlib.Core.Path.{sym}
use Rattle.nodes.proofs.Laws.{node_refused_by}
use Rattle.nodes.proofs.node.read_node.Goals as goal

pub returns-in_err-node : goal.returns-in_err-node
unfolding read_node
returns-in_err-node c = at_err _ _ _ _ c.object_block.ensures _ _ _ c.in_err-node.was _ c.from_residual.ensures.1

pub returns-in_err-parse : goal.returns-in_err-parse
unfolding read_node
returns-in_err-parse c = at_ok _ _ _ _ c.object_block.ensures _ _ c.in_ok-node.was _ (node_refused_by _ _ _ (c.parse.ensures _) _ c.in_err-parse.was _ c.from_residual-in_err-parse.ensures.1)

pub returns : goal.returns
unfolding read_node
returns c = at_ok _ _ _ _ c.object_block.ensures _ _ c.in_ok-node.was _ (sym (is_given _ _ _ _ (c.parse.ensures _) _ c.in_ok-parse.was))
