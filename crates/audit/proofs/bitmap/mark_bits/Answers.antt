use Rattle.std.proofs.Common.{arith, rules}
use Rattle.audit.proofs.WholeLaws.{whole_few, marked_then}
use Rattle.audit.proofs.bitmap.mark_bits.Goals as goal

pub mark_rest-requires : goal.mark_rest-requires
mark_rest-requires c = (search rules, omega (arith, whole_few _ _ _ _ _ _ c.mark_bytes-zeros.ensures))

pub returns : goal.returns
returns c = λ f. marked_then _ _ _ _ _ _ _ _ (omega arith) (omega arith) (search rules) c.mark_bytes-zeros.ensures (c.mark_rest.ensures f)
