use Rattle.std.proofs.Common.{◌≡◌, ◌-◌}
use Rattle.blocks.specs.Blocks.{block_of}
use Rattle.audit.specs.clauses.Answers.{pool_at}
use Rattle.audit.specs.clauses.Unlogged.{all_unused}
use Rattle.audit.proofs.unlogged.all_unused.Given as goal

abbrev pub invariant-loop-block : goal.invariant-loop-block
invariant-loop-block l =
    let pool = pool_at l.container l.place (block_of l.image l.container.size) in
    all_unused l.container pool l.map (l.block-end - l.block) l.block ≡ all_unused l.container pool l.map l.fn.run.count l.fn.run.start
