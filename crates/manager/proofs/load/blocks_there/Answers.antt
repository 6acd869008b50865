use Rattle.std.proofs.Common.{arith}
use Rattle.manager.proofs.LoadLaws.{left_first, left_more, left_refused, left_done}
use Rattle.manager.proofs.load.blocks_there.Goals as goal

pub loop-i-init : goal.loop-i-init
loop-i-init c = λ f. left_first f _ _ _

pub returns-in_err-block_there : goal.returns-in_err-block_there
returns-in_err-block_there c = λ f. left_refused (c.loop-i.invariant f) (omega arith) _ (c.block_there.ensures f) _ c.in_err-block_there.was _ c.from_residual.ensures.1

pub loop-i-preserved : goal.loop-i-preserved
loop-i-preserved c = λ f. left_more (c.loop-i.invariant f) (omega arith) _ (c.block_there.ensures f) _ c.in_ok-block_there.was

pub returns : goal.returns
returns c = λ f. left_done (c.loop-i.invariant f) (omega arith) (omega arith)
