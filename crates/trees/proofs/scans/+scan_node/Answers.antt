use mathlib.Core.Path.{◌≡◌, sym, ◌∙◌}
use native.Mathlib.Omega.{arith}
use Prim.Native.Nat.{ℕ, ◌+◌, ◌-◌}
use Rattle.blocks.specs.Reads.{run, no_blocks}
use Rattle.blocks.specs.Blocks.{block_of}
use Rattle.blocks.proofs.Laws.{is_refused, is_given}
use Rattle.report.proofs.StepLaws.{stepped_run, left_on, left_err, left_done, left_stopped}
use Rattle.trees.specs.clauses.Answers.{index_of, scan_below}
use Rattle.trees.proofs.ChildLaws.{child_level}
use Rattle.trees.proofs.ScanLaws.{scan_leaf, index_done, index_refused, index_found, scan_index}
use Rattle.trees.proofs.ReadLaws.{entry_read, child_scanned}
use Rattle.trees.proofs.scans.+scan_node.Given.{Over}
use Rattle.trees.proofs.scans.+scan_node.Goals.{At-loop-i}
use Rattle.trees.proofs.scans.+scan_node.Goals as goal

-- the children of an index node are all that is below it
whole : (g : Over) (t : ℕ) (c : At-loop-i g t) → let a = c.args in let f = block_of a.image.now a.tree.checkpoint.container.size in let p = g.V.Visitor.plan a.visitor a.tree.checkpoint in
    run f (index_of p a.tree.description f a.level c.block-node.result.now (record { next = 0; left = c.key_count-n.result }) (record { map = a.map.now; figures = a.figures })) ≡ run f (scan_below p a.tree.description f a.level (f a.address.0) (record { map = a.map.now; figures = a.figures }))
whole g t c = rw (c.key_count-n.ensures.0, ← c.block-node.ensures) (sym (scan_index _ _ _ _ _ _ _ (sym c.is_leaf.ensures ∙ c.if-is_leaf.false)))

pub returns-then-is_leaf : goal.returns-then-is_leaf
returns-then-is_leaf g t c = stepped_run c.scan_leaf.ensures (rw (← c.block-node.ensures) (sym (scan_leaf _ _ _ _ _ _ _ (sym c.is_leaf.ensures ∙ c.if-is_leaf.true))))

pub child_at-requires : goal.child_at-requires
child_at-requires g t c = ((omega arith, omega (arith, c.key_count-n.ensures.1)), entry_read _ _ (g.V.Visitor.plan c.args.visitor c.args.tree.checkpoint) _ _ c.requires _ c.block-node.ensures (sym c.is_leaf.ensures ∙ c.if-is_leaf.false) _ _ c.key_count-n.ensures.0 c.loop-i-test.true)

pub returns-in_err-child : goal.returns-in_err-child
returns-in_err-child g t c = stepped_run (left_stopped c.loop-i.invariant _ _ (index_refused _ _ _ _ _ _ _ _ _ (omega arith) _ (is_refused _ _ _ _ c.child_at.ensures _ c.in_err-child.was)) _ c.from_residual.ensures.1) (whole g t (goal.at.returns-in_err-child g t c).At-loop-i)

pub overflow_sub-level : goal.overflow_sub-level
overflow_sub-level g t c = omega (arith, child_level _ _ _ c.args.level _ _ _ _ (is_given _ _ _ _ c.child_at.ensures _ c.in_ok-child.was))

-- the call's lifetimes hold those of the visitor and of what it counts
pub scan_node-requires : goal.scan_node-requires
scan_node-requires g t c = λ κs bounds. (omega (arith, c.decreases, child_level _ _ _ c.args.level _ _ _ _ (is_given _ _ _ _ c.child_at.ensures _ c.in_ok-child.was)), (bounds.0, (bounds.1, child_scanned _ _ (g.V.Visitor.plan c.args.visitor c.args.tree.checkpoint) _ _ c.requires _ c.block-node.ensures (sym c.is_leaf.ensures ∙ c.if-is_leaf.false) _ _ c.key_count-n.ensures.0 c.loop-i-test.true (g.met.V.Visitor.as_read c.args.visitor c.args.tree.checkpoint) _ _ _ (is_given _ _ _ _ c.child_at.ensures _ c.in_ok-child.was))))

pub returns-in_err-figures : goal.returns-in_err-figures
returns-in_err-figures g t c = stepped_run (left_err c.loop-i.invariant c.scan_node.ensures _ _ c.in_err-figures.was _ (index_found _ _ _ _ _ _ _ _ _ (omega arith) _ (is_given _ _ _ _ c.child_at.ensures _ c.in_ok-child.was)) _ c.from_residual-in_err-figures.ensures.1) (whole g t (goal.at.returns-in_err-figures g t c).At-loop-i)

pub loop-i-preserved : goal.loop-i-preserved
loop-i-preserved g t c =
    let less : c.key_count-n.result - c.loop-i.i - 1 ≡ c.key_count-n.result - (c.loop-i.i + 1) = omega arith in
    left_on c.loop-i.invariant c.scan_node.ensures _ c.in_ok-figures.was _ (rw (← less) (index_found _ _ _ _ _ _ _ _ _ (omega arith) _ (is_given _ _ _ _ c.child_at.ensures _ c.in_ok-child.was))) (omega arith)

pub returns : goal.returns
returns g t c = stepped_run (left_done c.loop-i.invariant (index_done no_blocks _ _ _ _ _ _ _ _ (omega (arith, c.loop-i.auto.i-end)))) (whole g t (goal.at.returns g t c).At-loop-i)
