use Prim.Native.Nat.{◌-◌}
use Rattle.blocks.specs.Blocks.{block_of}
use Rattle.report.proofs.StepLaws.{Left}
use Rattle.trees.specs.clauses.Answers.{index_of}
use Rattle.trees.proofs.scans.+scan_node.Given as goal

abbrev pub decreases-scan_node : goal.decreases-scan_node
decreases-scan_node g l = l.level

abbrev pub invariant-loop-i : goal.invariant-loop-i
invariant-loop-i g l = let f = block_of l.image l.tree.checkpoint.container.size in
    Left f l.tree.checkpoint.container.count (record { next = 0; left = l.n }) (record { next = l.i; left = l.n - l.i }) (record { map = l.initial.map; figures = l.initial.figures }) (record { map = l.map; figures = l.figures }) (index_of (g.V.Visitor.plan l.visitor l.tree.checkpoint) l.tree.description f l.level l.node)
