use Rattle.report.proofs.StepLaws.{stepped_is}
use Rattle.audit.proofs.ChunkLaws.{chunk_free, chunk_mapped}
use Rattle.audit.proofs.chunks.audit_chunk.Goals as goal

pub returns-then-chunk-eq0 : goal.returns-then-chunk-eq0
returns-then-chunk-eq0 c = stepped_is (c.tally.ensures _ _ _) (chunk_free _ _ _ _ c.if-chunk-eq0.true)

pub returns : goal.returns
returns c = stepped_is c.audit_bitmap.ensures (chunk_mapped _ _ _ _ c.if-chunk-eq0.false)
