use Rattle.std.proofs.Common.{◌≡◌, ◌-◌}
use Rattle.audit.specs.clauses.Unlogged.{used_from}
use Rattle.audit.proofs.unlogged.use_run.Given as goal

abbrev pub invariant-loop-block : goal.invariant-loop-block
invariant-loop-block l = used_from (l.block-end - l.block) l.block l.map ≡ used_from l.fn.run.count l.fn.run.start l.initial.map
