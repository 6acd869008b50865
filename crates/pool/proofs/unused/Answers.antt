use Rattle.std.proofs.Common.{◌≡◌, ◌+◌, refl, ◌∙◌, add-zero, arith}
use Rattle.pool.proofs.Laws.{counted_span, counted_done}
use native.Mathlib.Nat.{sub-zero}
use Rattle.pool.proofs.unused.Goals as goal

pub loop-i-preserved : goal.loop-i-preserved
loop-i-preserved c = let end : c.piece_end.result ≡ c.loop-i.i + 32768 = omega arith in
    rw (← end) (counted_span c.loop-i.invariant _ (omega arith) (omega arith) _ c.unused_piece-n.ensures)

pub returns : goal.returns
returns c = counted_done c.loop-i.invariant c.loop-i-test.false ∙ rw (sub-zero, add-zero) refl
