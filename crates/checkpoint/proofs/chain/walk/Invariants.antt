use Rattle.std.proofs.Common.{◌≡◌, ℕ, ◌-◌, ◌<◌}
use Rattle.checkpoint.specs.clauses.InPlace.{Turn, turns}
use Rattle.checkpoint.proofs.chain.walk.Given as goal

abbrev pub invariant-loop-k : goal.invariant-loop-k
invariant-loop-k g l =
    (h : ℕ → Turn g.row.T.Denot) → ((k : ℕ) (r : Turn g.row.T.Denot) → k < l.n → goal.F-post g l.turn k r → r ≡ h k) → turns h l.last (l.n - l.k) l.k ≡ turns h l.last l.n 0
