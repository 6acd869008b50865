use Rattle.writers.proofs.Laws.{writing_from, writing_more, writing_done, part_more, part_none}
use native.Mathlib.Omega.{arith}
use Prim.Native.Nat.{◌+◌}
use Rattle.writers.proofs.put_each.Goals as goal

pub loop-i-init : goal.loop-i-init
loop-i-init c = writing_from _ _ _ _ (omega arith)

pub loop-i-preserved : goal.loop-i-preserved
loop-i-preserved c = writing_more _ _ _ _ _ _ _ _ c.loop-i.invariant (part_more c.args.bytes.now c.loop-i.i (omega arith)) (omega arith)

pub returns : goal.returns
returns c = writing_done _ _ _ _ _ (c.args.at + c.loop-i.i) _ c.loop-i.invariant (part_none c.args.bytes.now c.loop-i.i (omega arith)) (omega arith) (omega arith)
