use mathlib.Core.Path.{◌≡◌}
use mathlib.Core.List.{◌++◌}
use Prim.Native.Nat.{◌%◌}
use lib.ListN.{length}
use Rattle.std.specs.Slice.Iter.{chunks_rest, chunks_size}
use Rattle.fletcher.specs.declared.Sums.{Sums}
use Rattle.fletcher.specs.clauses.Pieces.{Added, Reduced}
use Rattle.fletcher.proofs.add.Given as goal

abbrev pub invariant-loop-block : goal.invariant-loop-block
invariant-loop-block l = (chunks_size l.block-iterator ≡ 4096)
    × (length (chunks_rest l.block-iterator) % 16 ≡ 0)
    × Reduced l.sums
    × ((r : Sums) → Added (chunks_rest l.block-iterator ++ l.rest) l.sums r → Added l.piece l.initial.sums r)
