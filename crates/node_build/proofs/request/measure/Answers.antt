use Rattle.node_build.proofs.Laws.{next_pair, measuring_more, measuring_short, measuring_done}
use Rattle.node_build.specs.Build.{padded_length}
use native.Mathlib.Omega.{arith}
use mathlib.Core.Path.{ap, ◌∙◌}
use Rattle.node_build.proofs.request.measure.Goals as goal

pub returns-then-left-key : goal.returns-then-left-key
returns-then-left-key c = let i = c.loop-entry.invariant in
    measuring_short i.1 (next_pair _ _ _ i.0 c.in-Some.ensures.steps.1) (omega arith)

pub returns-then-left-key-2 : goal.returns-then-left-key-2
returns-then-left-key-2 c = let i = c.loop-entry.invariant in
    measuring_short i.1 (next_pair _ _ _ i.0 c.in-Some.ensures.steps.1) (omega (arith, c.value_length-value.ensures))

pub loop-entry-preserved : goal.loop-entry-preserved
loop-entry-preserved c = let i = c.loop-entry.invariant in
    let cut = next_pair _ _ _ i.0 c.in-Some.ensures.steps.1 in (
      c.in-Some.ensures.steps.0 ∙ i.0,
      measuring_more i.1 cut _ _ _ c.padded_length-keys.ensures.0 (c.padded_length-values.ensures.0 ∙ ap (padded_length c.args.packed) c.value_length-value.ensures) (omega (arith, c.value_length-value.ensures)) (omega (arith, c.value_length-value.ensures)),
    )

pub returns : goal.returns
returns c = let i = c.loop-entry.invariant in measuring_done i.1 (omega (arith, i.0, c.in-None.ensures.steps.1.0))
