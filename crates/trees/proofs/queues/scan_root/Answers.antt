use mathlib.Core.Path.{sym}
use Rattle.blocks.proofs.Laws.{then_given, then_refused, is_refused, is_given}
use Rattle.queue.specs.Queue.{scan_queue}
use Rattle.report.proofs.StepLaws.{stepped_run, stays_err}
use Rattle.trees.proofs.queues.scan_root.Goals as goal

pub returns-in_err-description : goal.returns-in_err-description
unfolding scan_queue
returns-in_err-description g c = rw (← c.block-node.ensures) (stays_err _ _ _ _ (then_refused _ _ _ _ (is_refused _ _ _ _ (c.describe.ensures _) _ c.in_err-description.was)) _ c.from_residual.ensures.1)

pub returns : goal.returns
unfolding scan_queue
returns g c = stepped_run c.scan.ensures (rw (c.requires.0, ← c.block-node.ensures) (sym (then_given _ _ _ _ (is_given _ _ _ _ (c.describe.ensures _) _ c.in_ok-description.was))))
