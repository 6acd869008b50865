use Rattle.fields.proofs.Laws.{num_none, above_fits, byte_above}
use borrow.Author.Rules.{rules}
use native.Mathlib.Omega.{arith}
use mathlib.Core.Path.{◌≡◌, sym}
use Rattle.fields.proofs.inside.Goals as goal

pub loop-k-init : goal.loop-k-init
loop-k-init c = (search rules, record { is = sym (num_none _ _); fits = omega arith })

pub overflow_add-v : goal.overflow_add-v
overflow_add-v c = let l = c in
    record { fits = above_fits l.args.bytes.now l.args.at l.loop-k.k l.loop-k.v c.wide.result (omega arith) l.loop-k.invariant.1 c.wide.ensures.0 c.wide.ensures.1 }

pub loop-k-preserved : goal.loop-k-preserved
loop-k-preserved c = let l = c in
    (search rules, byte_above l.args.bytes.now l.args.at l.loop-k.k l.loop-k.v c.wide.result (omega arith) l.loop-k.invariant.1 c.wide.ensures.0 c.wide.ensures.1)
