use Rattle.std.proofs.Common.{sym, ◌∙◌}
use Rattle.checkpoint.proofs.ChainLaws.{turns_done, turns_stop, turns_onward}
use Rattle.checkpoint.proofs.chain.walk.Goals as goal

pub returns-in-Break : goal.returns-in-Break
returns-in-Break g c = λ h is. sym (turns_stop h _ _ _ c.loop-k-test.true _ (sym (is _ _ c.loop-k-test.true c.turn.ensures) ∙ c.in-Break.is)) ∙ c.loop-k.invariant h is

pub loop-k-preserved : goal.loop-k-preserved
loop-k-preserved g c = λ h is. sym (turns_onward h _ _ _ c.loop-k-test.true (sym (is _ _ c.loop-k-test.true c.turn.ensures) ∙ c.in_default.is)) ∙ c.loop-k.invariant h is

pub returns : goal.returns
returns g c = λ h is. sym (turns_done _ _ _ _ c.loop-k-test.false) ∙ c.loop-k.invariant h is
