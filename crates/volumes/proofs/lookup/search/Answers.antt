use mathlib.Core.Path.{ap, ◌∙◌}
use Rattle.std.specs.Prelude.{Ok}
use Rattle.blocks.proofs.Laws.{at_err}
use Rattle.volumes.proofs.LookupLaws.{searching_from, searching_done, searching_halves, searching_below, searching_past}
use Rattle.volumes.proofs.lookup.search.Goals as goal

pub loop-lo-init : goal.loop-lo-init
loop-lo-init c = searching_from _ _ _ _ _ c.key_count-hi.ensures.0 c.key_count-hi.ensures.1

pub returns-in_err-above_at : goal.returns-in_err-above_at
returns-in_err-above_at c = λ f. at_err _ _ f _ (c.above_at.ensures f) _ _ _ c.in_err-above_at.was _ c.from_residual.ensures.1 ∙ searching_halves _ _ _ _ c.loop-lo.invariant c.loop-lo-test.true f

pub loop-lo-preserved-then-branch : goal.loop-lo-preserved-then-branch
loop-lo-preserved-then-branch c = searching_below _ _ _ _ c.loop-lo.invariant c.loop-lo-test.true c.above_at.ensures (c.in_ok-above_at.was ∙ ap Ok c.if-branch.true)

pub loop-lo-preserved : goal.loop-lo-preserved
loop-lo-preserved c = searching_past _ _ _ _ c.loop-lo.invariant c.loop-lo-test.true c.above_at.ensures (c.in_ok-above_at.was ∙ ap Ok c.if-branch.false)

pub returns : goal.returns
returns c = searching_done _ _ _ _ c.loop-lo.invariant c.loop-lo-test.false
