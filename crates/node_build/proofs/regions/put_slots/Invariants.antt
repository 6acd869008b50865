use Rattle.node_build.proofs.Laws.{Slotting}
use Rattle.std.specs.Slice.Iter.{chunks_exact_rest, chunks_exact_size}
use Rattle.std.specs.Prelude.{◌≡◌}
use Rattle.node_build.proofs.regions.put_slots.Given as goal

abbrev pub invariant-loop-entry : goal.invariant-loop-entry
invariant-loop-entry l =
    (chunks_exact_size l.entry-iterator ≡ 2) × Slotting l.sizes l.packed l.lengths l.at l.initial.node (chunks_exact_rest l.entry-iterator) l.end l.koff l.last l.node
