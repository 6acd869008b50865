use Rattle.std.proofs.Common.{◌-◌}
use Rattle.blocks.specs.Blocks.{block_of}
use Rattle.report.proofs.StepLaws.{Left}
use Rattle.audit.specs.clauses.Answers.{audited, queued_left, run_blocks}
use Rattle.audit.proofs.queued.audit_run.Given as goal

abbrev pub invariant-loop-block : goal.invariant-loop-block
invariant-loop-block l =
    let f = block_of l.image l.container.size in
    Left f l.container.count (run_blocks l.fn.run) (record { next = l.block; left = l.block-end - l.block }) (audited l.initial.map l.fn.audit) (audited l.map l.audit) (λ to. queued_left l.container l.place to f)
