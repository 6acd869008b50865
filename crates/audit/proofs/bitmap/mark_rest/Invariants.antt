use Rattle.std.proofs.Common.{List, ℕ, ◌+◌, ◌-◌, ◌≤◌}
use Rattle.report.proofs.StepLaws.{Left}
use Rattle.audit.specs.Audit.{mark_from}
use Rattle.audit.proofs.bitmap.mark_rest.Given as goal

-- the zeros so far: all bits up to here but the ones
abbrev pub zeros_to : ℕ → ℕ → ℕ → ℕ → ℕ
zeros_to before from bit ones = before + (bit - from - ones)

abbrev pub invariant-loop-bit : goal.invariant-loop-bit
invariant-loop-bit l =
    ((f : ℕ → List ℕ) → Left f l.container.count l.fn.from (record { next = l.bit; left = l.bit-end - l.bit }) (record { map = l.initial.map; figures = l.before }) (record { map = l.map; figures = zeros_to l.before l.fn.from.next l.bit l.ones }) (λ to. mark_from l.container l.bits l.start to.left to.next))
    × (l.ones ≤ l.bit - l.fn.from.next)
