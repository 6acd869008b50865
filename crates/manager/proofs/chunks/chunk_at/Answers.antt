use native.Mathlib.Omega.{arith}
use Rattle.manager.proofs.ListLaws.{chunk_past, chunk_read}
use Rattle.manager.proofs.chunks.chunk_at.Goals as goal

pub returns-then-whole-index : goal.returns-then-whole-index
returns-then-whole-index c = chunk_past _ _ (omega arith)

pub returns : goal.returns
returns c = chunk_read _ _ _ _ _ _ c.u64_of.ensures.is c.u32_of.ensures.is c.u32_of-2.ensures.is c.u64_of-2.ensures.is
