use mathlib.Core.Path.{sym}
use Rattle.blocks.proofs.Laws.{is_refused, is_given}
use Rattle.report.proofs.StepLaws.{stepped_run, stays_ok, stays_err}
use Rattle.trees.proofs.QueueLaws.{queue_skipped, queue_unread, queue_read}
use Rattle.trees.proofs.queues.scan_queue.Goals as goal

pub returns-in_default : goal.returns-in_default
returns-in_default g c = stays_ok _ _ _ _ (queue_skipped _ _ _ _ _ _ _ c.lookup.ensures c.in_default.is)

pub returns-in_err-read_node : goal.returns-in_err-read_node
returns-in_err-read_node g c = stays_err _ _ _ _ (queue_unread _ _ _ _ _ _ _ c.lookup.ensures _ c.in-Some.is _ (is_refused _ _ _ _ c.read_node.ensures _ c.in_err-read_node.was)) _ c.from_residual.ensures.1

pub returns : goal.returns
returns g c = stepped_run c.scan_root.ensures (sym (queue_read _ _ _ _ _ _ _ c.lookup.ensures _ c.in-Some.is _ (is_given _ _ _ _ c.read_node.ensures _ c.in_ok-read_node.was)))
