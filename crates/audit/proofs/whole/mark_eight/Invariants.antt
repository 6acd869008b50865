use Rattle.std.proofs.Common.{◌≡◌, ◌+◌, ◌-◌, ◌*◌, length}
use Rattle.audit.specs.clauses.Bits.{bits_marked}
use Rattle.audit.proofs.whole.mark_eight.Given as goal

abbrev pub invariant-loop-k : goal.invariant-loop-k
invariant-loop-k l = (length l.map ≡ length l.initial.map) × ((bits_marked l.bits l.start (8 - l.k) (8 * l.at + l.k) (record { map = l.map; figures = 0 })).map ≡ (bits_marked l.bits l.start 8 (8 * l.at) (record { map = l.initial.map; figures = 0 })).map)
