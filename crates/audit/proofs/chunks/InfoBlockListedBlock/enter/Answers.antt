use Rattle.blocks.proofs.Laws.{is_given}
use Rattle.report.proofs.StepLaws.{read_stop}
use Rattle.audit.specs.Audit.{enter_info}
use Rattle.audit.proofs.ChunkLaws.{info_there}
use Rattle.audit.proofs.chunks.InfoBlockListedBlock.enter.Goals as goal

pub returns-in_err-chunks_there : goal.returns-in_err-chunks_there
unfolding enter_info
returns-in_err-chunks_there c = rw (← c.block-block.ensures) (read_stop _ _ _ (c.chunks_there.ensures _) _ c.in_err-chunks_there.was c.from_residual.ensures.1)

pub returns : goal.returns
returns c = rw (← c.block-block.ensures) (info_there _ _ _ _ _ _ (is_given _ _ _ _ (c.chunks_there.ensures _) _ c.in_ok-chunks_there.was) c.requires c.use_block.ensures c.audit_chunks.ensures)
