use Rattle.std.proofs.Common.{sym, ap, ◌∙◌}
use Rattle.blocks.specs.Reads.{given}
use Rattle.blocks.proofs.Laws.{is_given}
use Rattle.nodes.proofs.Laws.{node_given}
use Rattle.queue.proofs.node_at.Goals as goal

pub returns : goal.returns
returns c = let read = is_given _ _ _ _ c.read_node.ensures _ c.in_ok-read_node.was in
    sym (read ∙ ap given (node_given _ _ _ _ read))
