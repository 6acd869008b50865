use Rattle.std.proofs.Common.{sym, refl, ◌∙◌, arith, rules}
use Rattle.pool.proofs.Laws.{counted_more, counted_done, count_none, bit_read_of}
use Rattle.pool.proofs.unused_byte.Goals as goal

pub returns-then-b-eq0 : goal.returns-then-b-eq0
returns-then-b-eq0 c = sym (count_none _ _ _ _ (sym c.byte_near-b.ensures ∙ c.if-b-eq0.true) _ _ _ (omega arith) (omega arith) (omega arith) (search rules))

pub loop-i-preserved : goal.loop-i-preserved
loop-i-preserved c =
    let bit = bit_read_of _ _ _ _ _ _ c.byte_near-b.ensures (omega arith) refl c.bit_of.ensures in
    counted_more c.loop-i.invariant c.loop-i-test.true (search rules) (search rules) _ bit _ c.unused_one-found.ensures.0 c.unused_one-found.ensures.1

pub returns : goal.returns
returns c = counted_done c.loop-i.invariant c.loop-i-test.false
