use mathlib.Core.Path.{ap, ◌∙◌}
use Rattle.blocks.specs.Reads.{given}
use Rattle.blocks.proofs.Laws.{is_given}
use Rattle.nodes.proofs.Laws.{node_given}
use Rattle.report.proofs.StepLaws.{read_stop, read_then}
use Rattle.volumes.specs.Volumes.{claim_tree}
use Rattle.volumes.proofs.own_trees.claim_tree.Goals as goal

pub returns-in_err-node : goal.returns-in_err-node
unfolding claim_tree
returns-in_err-node c = read_stop _ _ _ c.read_node.ensures _ c.in_err-node.was c.from_residual.ensures.1

pub returns-in_err-description : goal.returns-in_err-description
unfolding claim_tree
returns-in_err-description c = read_then _ _ _ c.read_node.ensures _ c.in_ok-node.was (read_stop _ _ _ (c.describe.ensures _) _ c.in_err-description.was c.from_residual-in_err-description.ensures.1)

pub walk-requires : goal.walk-requires
walk-requires c = let read = is_given _ _ _ _ c.read_node.ensures _ c.in_ok-node.was in read ∙ ap given (node_given _ _ _ _ read)

pub returns : goal.returns
unfolding claim_tree
returns c = read_then _ _ _ c.read_node.ensures _ c.in_ok-node.was (read_then _ _ _ (c.describe.ensures _) _ c.in_ok-description.was c.walk.ensures)
