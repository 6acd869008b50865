use native.Mathlib.Omega.{arith}
use Prim.Native.Nat.{◌+◌, ◌-◌}
use Rattle.blocks.specs.Reads.{no_blocks}
use Rattle.blocks.proofs.Laws.{is_refused, is_given}
use Rattle.report.proofs.StepLaws.{left_on, left_err, left_done, left_stopped, left_unlogged, unlogged_stepped}
use Rattle.trees.proofs.ScanLaws.{leaf_done, leaf_refused, leaf_found}
use Rattle.trees.proofs.scans.scan_leaf.Goals as goal

pub returns-in_err-entry : goal.returns-in_err-entry
returns-in_err-entry g c = rw (← c.key_count-n.ensures.0) (unlogged_stepped c.leaf_unlogged-at.ensures (left_stopped c.loop-at.invariant.1 _ _ (leaf_refused _ _ _ _ _ _ _ _ (omega arith) _ (is_refused _ _ _ _ (c.entry.ensures _) _ c.in_err-entry.was)) _ c.from_residual.ensures.1))

pub returns-in_err-figures : goal.returns-in_err-figures
returns-in_err-figures g c = rw (← c.key_count-n.ensures.0) (unlogged_stepped c.leaf_unlogged-at.ensures (left_err c.loop-at.invariant.1 c.visit.ensures _ _ c.in_err-figures.was _ (leaf_found _ _ _ _ _ _ _ _ (omega arith) _ (is_given _ _ _ _ (c.entry.ensures _) _ c.in_ok-entry.was)) _ c.from_residual-in_err-figures.ensures.1))

pub loop-at-preserved : goal.loop-at-preserved
loop-at-preserved g c = (c.loop-at.invariant.0, left_unlogged (left_on c.loop-at.invariant.1 c.visit.ensures _ c.in_ok-figures.was (record { next = c.loop-at.at.next + 1; left = c.loop-at.at.left - 1 }) (leaf_found _ _ _ _ _ _ _ _ (omega arith) _ (is_given _ _ _ _ (c.entry.ensures _) _ c.in_ok-entry.was)) (omega arith)) _ _ c.leaf_unlogged-at-in-loop-at.ensures)

pub returns : goal.returns
returns g c = rw (← c.key_count-n.ensures.0) (unlogged_stepped c.leaf_unlogged-at.ensures (left_done c.loop-at.invariant.1 (leaf_done no_blocks _ _ _ _ _ _ _ (omega arith))))
