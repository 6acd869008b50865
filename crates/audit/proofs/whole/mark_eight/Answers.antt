use Rattle.std.proofs.Common.{sym, ap, ◌∙◌, ℕ, arith, rules}
use Rattle.block_map.specs.BlockMap.{Marked}
use Rattle.audit.proofs.WholeLaws.{byte_more, bits_over}
use Rattle.audit.proofs.whole.mark_eight.Goals as goal

pub loop-k-preserved : goal.loop-k-preserved
loop-k-preserved c = (search rules, byte_more _ _ _ _ _ _ _ _ _ _ (search rules) (search rules) c.bit_of.ensures (omega arith) c.with_bit.ensures c.loop-k.invariant.1)

pub returns : goal.returns
returns c = sym (ap (λ (s : Marked ℕ). s.map) (bits_over _ _ 8 _ _ _ c.loop-k-test.false)) ∙ c.loop-k.invariant.1
