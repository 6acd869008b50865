use Rattle.std.proofs.Common.{◌-◌}
use Rattle.blocks.specs.Blocks.{block_of}
use Rattle.manager.specs.Chunks.{chunk_count}
use Rattle.report.proofs.StepLaws.{Left}
use Rattle.audit.specs.clauses.Answers.{audited, chunks_left}
use Rattle.audit.proofs.chunks.audit_chunks.Given as goal

abbrev pub invariant-loop-i : goal.invariant-loop-i
invariant-loop-i l =
    let f = block_of l.image l.container.size in
    Left f l.container.count (record { next = 0; left = chunk_count l.block }) (record { next = l.i; left = l.i-end - l.i }) (audited l.initial.map l.fn.audit) (audited l.map l.audit) (λ to. chunks_left l.container l.place l.block to f)
