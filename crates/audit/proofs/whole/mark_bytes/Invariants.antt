use Rattle.std.proofs.Common.{◌≡◌, ◌-◌, ◌*◌, ◌≤◌, length}
use Rattle.audit.specs.clauses.Bits.{bits_marked}
use Rattle.audit.proofs.whole.mark_bytes.Given as goal

abbrev pub invariant-loop-j : goal.invariant-loop-j
invariant-loop-j l = (l.zeros ≤ 8 * l.j) × (length l.map ≡ length l.initial.map) × (bits_marked l.bits l.start (8 * l.count - 8 * l.j) (8 * l.j) (record { map = l.map; figures = l.zeros }) ≡ bits_marked l.bits l.start (8 * l.count) 0 (record { map = l.initial.map; figures = 0 }))
