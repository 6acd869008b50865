use Prim.Native.Nat.{◌-◌, ◌≤◌}
use Rattle.claims.specs.clauses.Answers.{OwnedUpTo, end_of}
use Rattle.claims.proofs.Laws.{at_block}
use Rattle.claims.proofs.own_from.Given as goal

abbrev pub invariant-loop-next : goal.invariant-loop-next
invariant-loop-next l = let from = l.fn.from in (l.next ≤ end_of from) × OwnedUpTo l.kind from (at_block from l.next) l.fn.map l.map

abbrev pub decreases-loop-next : goal.decreases-loop-next
decreases-loop-next l = l.end - l.next
