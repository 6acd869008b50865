use Rattle.std.proofs.Common.{lt-ltb, le-ltb}
use Rattle.report.proofs.StepLaws.{read_then, read_stop, need_then, need_stop}
use Rattle.audit.specs.Audit.{mark_set}
use Rattle.audit.proofs.BitmapLaws.{bit_marked}
use Rattle.audit.proofs.bitmap.mark_set.Goals as goal

pub returns-in_err-block : goal.returns-in_err-block
unfolding mark_set
returns-in_err-block c = λ f zeros. read_stop _ _ _ (c.add.ensures f) _ c.in_err-block.was c.from_residual.ensures.1

pub returns-then-container-block : goal.returns-then-container-block
unfolding mark_set
returns-then-container-block c = λ f zeros. read_then _ _ _ (c.add.ensures f) _ c.in_ok-block.was (need_stop _ _ _ (le-ltb _ _ c.if-container-block.true))

pub returns : goal.returns
unfolding mark_set
returns c = λ f zeros. read_then _ _ _ (c.add.ensures f) _ c.in_ok-block.was (need_then _ _ _ (lt-ltb _ _ c.if-container-block.false) (bit_marked f _ _ zeros c.if-container-block.false c.mark_block.ensures))
