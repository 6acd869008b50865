use Rattle.std.proofs.Common.{sym, ap, ◌∙◌}
use Rattle.audit.specs.clauses.Unlogged.{used_from}
use Rattle.audit.proofs.UnloggedLaws.{use_done, use_more}
use Rattle.audit.proofs.unlogged.use_run.Goals as goal

pub loop-block-preserved : goal.loop-block-preserved
loop-block-preserved c = ap (used_from _ _) c.use_block.ensures ∙ sym (use_more _ _ _ c.loop-block-test.true) ∙ c.loop-block.invariant

pub returns : goal.returns
returns c = sym (use_done _ _ _ c.loop-block-test.false) ∙ c.loop-block.invariant
