use Rattle.blocks.specs.Blocks.{block_of}
use Rattle.report.specs.clauses.Steps.{MovesUnlogged, Within}
use Rattle.trees.specs.clauses.Answers.{leaf_of}
use Rattle.trees.proofs.scans.leaf_unlogged.Given as goal

abbrev pub invariant-loop-at : goal.invariant-loop-at
invariant-loop-at g l = let f = block_of l.image l.tree.checkpoint.container.size in
    Within l.initial.at × MovesUnlogged f l.tree.checkpoint.container.count l.initial.at l.at l.initial.map l.map (leaf_of (g.V.Visitor.plan l.visitor l.tree.checkpoint) l.tree.description f l.node)

abbrev pub decreases-loop-at : goal.decreases-loop-at
decreases-loop-at g l = l.at.left
