use Rattle.node_build.specs.Build.{padded_length}
use Rattle.node_build.proofs.Laws.{next_pair, slotting_more, slotting_small, slotting_done, slotting_reached}
use native.Mathlib.Omega.{arith}
use Prim.Native.Nat.{◌+◌}
use mathlib.Core.Path.{ap, ◌∙◌}
use Rattle.node_build.proofs.regions.put_slots.Goals as goal

pub padded_length-requires : goal.padded_length-requires
padded_length-requires c = let i = c.loop-entry.invariant in
    omega (arith, c.value_length-vlen.ensures, slotting_small i.1 (next_pair _ _ _ i.0 c.in-Some.ensures.steps.1))

pub overflow_add-next : goal.overflow_add-next
overflow_add-next c = let i = c.loop-entry.invariant in
    omega (arith, c.value_length-vlen.ensures, c.padded_length.ensures.2, slotting_small i.1 (next_pair _ _ _ i.0 c.in-Some.ensures.steps.1))

pub padded_length-koff-requires : goal.padded_length-koff-requires
padded_length-koff-requires c = let i = c.loop-entry.invariant in
    omega (arith, slotting_small i.1 (next_pair _ _ _ i.0 c.in-Some.ensures.steps.1))

pub overflow_add-koff : goal.overflow_add-koff
overflow_add-koff c = let i = c.loop-entry.invariant in
    omega (arith, c.padded_length-koff.ensures.2, slotting_small i.1 (next_pair _ _ _ i.0 c.in-Some.ensures.steps.1))

pub loop-entry-preserved : goal.loop-entry-preserved
loop-entry-preserved c =
    let l = c.loop-entry in
    let i = c.loop-entry.invariant in
    let cut = next_pair _ _ _ i.0 c.in-Some.ensures.steps.1 in (
      c.in-Some.ensures.steps.0 ∙ i.0,
      slotting_more i.1 cut _ _ _ _ _ _
          c.padded_length-koff.ensures.0
          (ap (λ x. l.last + x) (c.padded_length.ensures.0 ∙ ap (padded_length c.args.packed) c.value_length-vlen.ensures))
          c.offset_for-voff.ensures
          c.value_length-vlen.ensures
          c.put_slot-end.ensures,
    )

pub returns : goal.returns
returns c = let i = c.loop-entry.invariant in
    (slotting_done i.1 (omega (arith, i.0, c.in-None.ensures.steps.1.0)), slotting_reached i.1 (omega (arith, i.0, c.in-None.ensures.steps.1.0)))
