use Rattle.node_build.proofs.Laws.{Measuring}
use Rattle.std.specs.Slice.Iter.{chunks_exact_rest, chunks_exact_size}
use Rattle.std.specs.Prelude.{◌≡◌}
use Rattle.node_build.proofs.request.measure.Given as goal

abbrev pub invariant-loop-entry : goal.invariant-loop-entry
invariant-loop-entry l = (chunks_exact_size l.entry-iterator ≡ 2) × Measuring l.packed l.lengths l.parts (chunks_exact_rest l.entry-iterator) l.left l.keys l.values
