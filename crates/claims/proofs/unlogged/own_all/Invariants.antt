use mathlib.Core.Path.{◌≡◌}
use Prim.Native.Nat.{◌-◌, ◌%◌}
use Rattle.claims.specs.clauses.Unlogged.{owned_from}
use Rattle.claims.proofs.unlogged.own_all.Given as goal

abbrev pub invariant-loop-block : goal.invariant-loop-block
invariant-loop-block l = owned_from (l.kind % 16) l.map (l.end - l.block) l.block ≡ owned_from (l.kind % 16) l.initial.map (l.end - l.start) l.start

abbrev pub decreases-loop-block : goal.decreases-loop-block
decreases-loop-block l = l.end - l.block
