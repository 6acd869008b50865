use mathlib.Core.Path.{sym, ◌∙◌}
use Rattle.claims.proofs.UnloggedLaws.{owned_done, owned_more}
use Rattle.claims.proofs.unlogged.own_all.Goals as goal

pub loop-block-preserved : goal.loop-block-preserved
loop-block-preserved c = sym (owned_more _ _ _ c.loop-block-test.true _ _ c.own_block.ensures) ∙ c.loop-block.invariant

pub returns : goal.returns
returns c = sym (owned_done _ _ _ _ c.loop-block-test.false) ∙ c.loop-block.invariant
