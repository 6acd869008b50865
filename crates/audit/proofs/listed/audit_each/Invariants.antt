use Rattle.std.proofs.Common.{◌-◌}
use Rattle.blocks.specs.Blocks.{block_of}
use Rattle.report.proofs.StepLaws.{Left}
use Rattle.audit.specs.clauses.Answers.{audited, audit_by, each_left}
use Rattle.audit.proofs.listed.audit_each.Given as goal

abbrev pub invariant-loop-i : goal.invariant-loop-i
invariant-loop-i g l =
    let f = block_of l.image l.container.size in
    Left f l.container.count (record { next = 0; left = l.list.count }) (record { next = l.i; left = l.list.count - l.i }) (audited l.initial.map l.fn.audit) (audited l.map l.audit) (λ to. each_left (audit_by g.B.ListedBlock.UNMARKED g.B.ListedBlock.entry) l.container l.place l.list to f)
