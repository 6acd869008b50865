use Rattle.writers.proofs.Laws.{wrote_length}
use Rattle.node_build.proofs.Laws.{next_pair, pairing_more, pairing_done, key_there, value_there, key_room, value_low, value_room}
use native.Mathlib.Omega.{arith}
use mathlib.Core.Path.{◌∙◌}
use Rattle.node_build.proofs.regions.put_pairs.Goals as goal

pub piece_at-key-requires : goal.piece_at-key-requires
piece_at-key-requires c = let i = c.loop-entry.invariant in
    key_there i.1 c.requires.1 (next_pair _ _ _ i.0 c.in-Some.ensures.steps.1) (omega arith) c.value_length-n.ensures

pub put_padded-first-requires : goal.put_padded-first-requires
put_padded-first-requires c = let i = c.loop-entry.invariant in
    key_room i.1 c.requires.1 (next_pair _ _ _ i.0 c.in-Some.ensures.steps.1) (omega arith) c.value_length-n.ensures c.piece_at-key.ensures

pub overflow_add-p : goal.overflow_add-p
overflow_add-p c = let i = c.loop-entry.invariant in
    omega (arith, key_there i.1 c.requires.1 (next_pair _ _ _ i.0 c.in-Some.ensures.steps.1) (omega arith) c.value_length-n.ensures)

pub piece_at-value-requires : goal.piece_at-value-requires
piece_at-value-requires c = let i = c.loop-entry.invariant in
    value_there i.1 c.requires.1 (next_pair _ _ _ i.0 c.in-Some.ensures.steps.1) (omega arith) c.value_length-n.ensures

pub padded_length-requires : goal.padded_length-requires
padded_length-requires c = let i = c.loop-entry.invariant in
    omega (arith, value_there i.1 c.requires.1 (next_pair _ _ _ i.0 c.in-Some.ensures.steps.1) (omega arith) c.value_length-n.ensures)

pub overflow_sub-last : goal.overflow_sub-last
overflow_sub-last c = let i = c.loop-entry.invariant in
    omega (arith, c.padded_length.ensures.0, value_low i.1 c.requires.1 (next_pair _ _ _ i.0 c.in-Some.ensures.steps.1) (omega arith) c.value_length-n.ensures c.piece_at-value.ensures)

pub put_padded-requires : goal.put_padded-requires
put_padded-requires c = let i = c.loop-entry.invariant in
    omega (arith, wrote_length c.put_padded-first.ensures, value_room i.1 c.requires.1 (next_pair _ _ _ i.0 c.in-Some.ensures.steps.1) (omega arith) c.value_length-n.ensures c.piece_at-value.ensures c.padded_length.ensures.0)

pub overflow_add-p-in-loop-entry : goal.overflow_add-p-in-loop-entry
overflow_add-p-in-loop-entry c = let i = c.loop-entry.invariant in
    omega (arith, key_there i.1 c.requires.1 (next_pair _ _ _ i.0 c.in-Some.ensures.steps.1) (omega arith) c.value_length-n.ensures)

pub overflow_add-p-in-loop-entry-2 : goal.overflow_add-p-in-loop-entry-2
overflow_add-p-in-loop-entry-2 c = let i = c.loop-entry.invariant in
    omega (arith, value_there i.1 c.requires.1 (next_pair _ _ _ i.0 c.in-Some.ensures.steps.1) (omega arith) c.value_length-n.ensures)

pub loop-entry-preserved : goal.loop-entry-preserved
loop-entry-preserved c = let i = c.loop-entry.invariant in
    let cut = next_pair _ _ _ i.0 c.in-Some.ensures.steps.1 in (
      c.in-Some.ensures.steps.0 ∙ i.0,
      pairing_more i.1 c.requires.1 cut (omega arith) c.value_length-n.ensures c.piece_at-value.ensures c.padded_length.ensures.0 c.piece_at-key.ensures c.put_padded-first.ensures c.put_padded.ensures,
    )

pub returns : goal.returns
returns c = let i = c.loop-entry.invariant in pairing_done i.1 c.requires.1 (omega (arith, i.0, c.in-None.ensures.steps.1.0))
