use mathlib.Core.Path.{ap, ◌∙◌}
use Rattle.std.specs.Prelude.{Ok}
use Rattle.nodes.specs.Node.{level_of}
use Rattle.report.proofs.StepLaws.{passed_on}
use Rattle.volumes.specs.clauses.Answers.{along_turn}
use Rattle.volumes.proofs.LookupLaws.{lookup_first, way_out, way_told}
use Rattle.volumes.proofs.ObjectMap.lookup.Goals as goal

pub loop-level-init : goal.loop-level-init
loop-level-init c = lookup_first _ _ _ _ _ _ (c.level-levels.ensures.0 ∙ ap level_of c.block.ensures)

pub returns-in_err-turn : goal.returns-in_err-turn
unfolding along_turn
returns-in_err-turn c = passed_on _ _ _ c.from_residual.ensures.1 ∙ way_told _ _ _ _ _ _ c.loop-level.invariant c.loop-level-test.true _ c.turn.ensures _ c.in_err-turn.was

pub returns-in-Nothing : goal.returns-in-Nothing
unfolding along_turn
returns-in-Nothing c = way_told _ _ _ _ _ _ c.loop-level.invariant c.loop-level-test.true _ c.turn.ensures _ (c.in_ok-turn.was ∙ ap Ok c.in-Nothing.is)

pub returns-in-At : goal.returns-in-At
unfolding along_turn
returns-in-At c = way_told _ _ _ _ _ _ c.loop-level.invariant c.loop-level-test.true _ c.turn.ensures _ (c.in_ok-turn.was ∙ ap Ok c.in-At.is)

pub loop-level-preserved : goal.loop-level-preserved
unfolding along_turn
loop-level-preserved c = way_told _ _ _ _ _ _ c.loop-level.invariant c.loop-level-test.true _ c.turn.ensures _ (c.in_ok-turn.was ∙ ap Ok c.in-Down.is)

pub returns : goal.returns
returns c = way_out _ _ _ _ _ _ c.loop-level.invariant c.loop-level-test.false
