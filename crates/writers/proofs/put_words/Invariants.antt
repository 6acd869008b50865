use Rattle.writers.proofs.Laws.{Writing}
use lib.ListN.{drop}
use Prim.Native.Nat.{◌*◌}
use Rattle.writers.proofs.put_words.Given as goal

abbrev pub invariant-loop-k : goal.invariant-loop-k
invariant-loop-k l = Writing (drop (l.k * 8) l.words) l.end l.out l.words l.at l.initial.out
