use Rattle.writers.proofs.Laws.{Writing}
use lib.ListN.{drop}
use Prim.Native.Nat.{◌+◌}
use Rattle.writers.proofs.put_each.Given as goal

abbrev pub invariant-loop-i : goal.invariant-loop-i
invariant-loop-i l = Writing (drop l.i l.bytes) (l.at + l.i) l.out l.bytes l.at l.initial.out
