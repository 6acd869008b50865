use Rattle.node_build.proofs.Laws.{Pairing}
use Rattle.std.specs.Slice.Iter.{chunks_exact_rest, chunks_exact_size}
use Rattle.std.specs.Prelude.{◌≡◌}
use Rattle.node_build.proofs.regions.put_pairs.Given as goal

abbrev pub invariant-loop-entry : goal.invariant-loop-entry
invariant-loop-entry l =
    (chunks_exact_size l.entry-iterator ≡ 2)
    × Pairing l.packed l.parts l.lengths l.at l.end l.initial.node (chunks_exact_rest l.entry-iterator) l.p l.first l.last l.node
