use Rattle.std.proofs.Common.{arith}
use Rattle.manager.proofs.LoadLaws.{left_first, left_more, left_refused, left_done}
use Rattle.pool.proofs.bitmaps_there.Goals as goal

pub loop-i-init : goal.loop-i-init
loop-i-init c = left_first _ _ _ _

pub returns-in_err-bitmap_there : goal.returns-in_err-bitmap_there
returns-in_err-bitmap_there c = left_refused c.loop-i.invariant (omega arith) _ c.bitmap_there.ensures _ c.in_err-bitmap_there.was _ c.from_residual.ensures.1

pub loop-i-preserved : goal.loop-i-preserved
loop-i-preserved c = left_more c.loop-i.invariant (omega arith) _ c.bitmap_there.ensures _ c.in_ok-bitmap_there.was

pub returns : goal.returns
returns c = left_done c.loop-i.invariant (omega arith) (omega arith)
