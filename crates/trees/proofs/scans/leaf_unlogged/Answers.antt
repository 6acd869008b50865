use mathlib.Core.Path.{refl}
use native.Mathlib.Omega.{arith}
use Rattle.blocks.proofs.Laws.{is_given}
use Rattle.report.proofs.StepLaws.{unlogged_more}
use Rattle.trees.proofs.ScanLaws.{leaf_on}
use Rattle.trees.proofs.scans.leaf_unlogged.Goals as goal

pub loop-at-preserved : goal.loop-at-preserved
loop-at-preserved g c = (c.loop-at.invariant.0, unlogged_more _ _ _ _ _ _ _ _ _ c.loop-at.invariant.1 (omega arith) refl (leaf_on _ (g.V.Visitor.plan c.args.visitor c.args.tree.checkpoint) _ _ c.loop-at.at _ _ _ _ _ (omega arith) (is_given _ _ _ _ (c.entry.ensures _) _ c.in-Ok.is) c.visit_unlogged.ensures.1 c.if-not-visit_unlogged.false) c.visit_unlogged.ensures.1.kept)
