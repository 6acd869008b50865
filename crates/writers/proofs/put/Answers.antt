use mathlib.Core.Path.{refl}
use Rattle.writers.proofs.Laws.{byte_more, bytes_done, wrote_part, length_bytes}
use native.Mathlib.Omega.{arith}
use Rattle.writers.proofs.put.Goals as goal

pub loop-byte-preserved : goal.loop-byte-preserved
loop-byte-preserved c = let l = c.loop-byte in
    byte_more l.byte-items _ l.byte-index l.rest (omega (arith, l.auto.byte-items, c.loop-byte-test.true)) l.invariant

pub returns : goal.returns
returns c = let a = c.args in
    let l = c.loop-byte in
    let long = length_bytes a.width a.number in
    let all = bytes_done l.byte-items _ l.byte-index l.rest (omega (arith, l.auto.byte-items, c.loop-byte-test.false)) l.invariant in
    (wrote_part _ _ _ (omega (arith, long)) all (omega (arith, long)) (omega (arith, long)), refl)
