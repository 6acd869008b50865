use Rattle.std.proofs.Common.{◌+◌, ◌-◌}
use Rattle.fields.specs.clauses.Numbers.{NumberAt}
use Rattle.manager.specs.clauses.Place.{bytes_of}
use Rattle.manager.proofs.place.number_across.Given as goal

abbrev pub invariant-loop-k : goal.invariant-loop-k
invariant-loop-k l = NumberAt (l.width - l.k) (bytes_of l.image l.container.size l.manager) (l.off + l.k) l.v
