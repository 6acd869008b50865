use native.Mathlib.Nat.{sub_self}
use Rattle.std.proofs.Common.{sym, arith, rules}
use Rattle.fields.proofs.Laws.{num_none}
use Rattle.manager.proofs.Laws.{number_more, room}
use Rattle.manager.proofs.place.number_across.Goals as goal

pub loop-k-init : goal.loop-k-init
loop-k-init c = rw sub_self (record { is = sym (num_none _ _); fits = search rules })

pub overflow_mul-v : goal.overflow_mul-v
overflow_mul-v c = omega (arith, room _ _ _ c.requires c.loop-k-test.true c.loop-k.invariant.fits)

pub overflow_add-v : goal.overflow_add-v
overflow_add-v c = omega (arith, room _ _ _ c.requires c.loop-k-test.true c.loop-k.invariant.fits)

pub loop-k-preserved : goal.loop-k-preserved
loop-k-preserved c = number_more _ _ _ _ _ _ c.loop-k-test.true c.loop-k.auto.k c.loop-k.invariant c.byte_in.ensures.0 c.byte_in.ensures.1
