use Rattle.blocks.proofs.Laws.{is_given}
use Rattle.report.proofs.StepLaws.{read_then, read_stop}
use Rattle.audit.proofs.Laws.{raw_below}
use Rattle.audit.proofs.listed.read_block.Goals as goal

pub enter-requires : goal.enter-requires
enter-requires g c = raw_below _ _ _ _ (is_given _ _ _ _ c.raw_block.ensures.block _ c.in_ok-raw_block.was)

pub returns-in_err-raw_block : goal.returns-in_err-raw_block
returns-in_err-raw_block g c = read_stop _ _ _ c.raw_block.ensures.block _ c.in_err-raw_block.was c.from_residual.ensures.1

pub returns : goal.returns
returns g c = read_then _ _ _ (c.raw_block.ensures.there _) _ c.in_ok-raw_block.was c.enter.ensures
