use Rattle.blocks.specs.Blocks.{block_of}
use Rattle.report.proofs.StepLaws.{Left}
use Rattle.report.specs.clauses.Steps.{Within}
use Rattle.trees.specs.clauses.Answers.{leaf_of}
use Rattle.trees.proofs.scans.scan_leaf.Given as goal

abbrev pub invariant-loop-at : goal.invariant-loop-at
invariant-loop-at g l = let f = block_of l.image l.tree.checkpoint.container.size in
    Within l.initial.at × Left f l.tree.checkpoint.container.count l.initial.at l.at (record { map = l.initial.map; figures = l.initial.figures }) (record { map = l.map; figures = l.figures }) (leaf_of (g.V.Visitor.plan l.visitor l.tree.checkpoint) l.tree.description f l.node)

abbrev pub decreases-loop-at : goal.decreases-loop-at
decreases-loop-at g l = l.at.left
