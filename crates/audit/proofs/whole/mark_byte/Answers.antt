use Rattle.std.proofs.Common.{refl, sym, add-zero}
use Rattle.audit.proofs.OnesLaws.{ones_few, ones_all}
use Rattle.audit.proofs.WholeLaws.{byte_marked}
use Rattle.audit.proofs.whole.mark_byte.Goals as goal

pub returns-then-b : goal.returns-then-b
returns-then-b c = byte_marked _ _ _ _ _ _ _ _ _ (sym c.if-b.true) c.mark_eight.ensures (sym ones_all) (sym (add-zero _))

pub overflow_sub-after : goal.overflow_sub-after
overflow_sub-after c = rw c.ones.ensures (ones_few 8 _)

pub returns : goal.returns
returns c = byte_marked _ _ _ _ _ _ _ _ _ refl c.mark_eight-2.ensures c.ones.ensures refl
