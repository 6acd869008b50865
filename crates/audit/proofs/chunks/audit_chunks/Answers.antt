use Rattle.std.proofs.Common.{ap, arith}
use Rattle.blocks.specs.Reads.{run}
use Rattle.report.proofs.StepLaws.{left_on, left_err, left_done}
use Rattle.audit.proofs.ChunkLaws.{chunks_done, chunks_more}
use Rattle.audit.proofs.chunks.audit_chunks.Goals as goal

pub returns-in_err-audit : goal.returns-in_err-audit
returns-in_err-audit c = left_err c.loop-i.invariant c.audit_chunk.ensures (λ x. x) _ c.in_err-audit.was _ (ap (run _) (chunks_more _ _ _ _ _ _ _ c.chunk_at-chunk.ensures c.loop-i-test.true)) _ c.from_residual.ensures.1

pub loop-i-preserved : goal.loop-i-preserved
loop-i-preserved c = left_on c.loop-i.invariant c.audit_chunk.ensures _ c.in_ok-audit.was _ (ap (run _) (chunks_more _ _ _ _ _ _ _ c.chunk_at-chunk.ensures c.loop-i-test.true)) (omega arith)

pub returns : goal.returns
returns c = left_done c.loop-i.invariant (chunks_done _ _ _ _ _ _ c.loop-i-test.false)
