use mathlib.Core.Path.{refl, ap}
use Prim.Native.Nat.{◌*◌}
use lib.ListN.{length}
use Rattle.writers.proofs.Laws.{writing_from, writing_next, writing_done, word_of, words_more, words_room, part_none}
use native.Mathlib.Omega.{arith}
use Rattle.writers.proofs.put_words.Goals as goal

pub loop-k-init : goal.loop-k-init
loop-k-init c = writing_from _ _ _ _ refl

pub put-end-requires : goal.put-end-requires
put-end-requires c = words_room _ _ _ _ _ c.loop-k.k c.loop-k.invariant c.requires.0 c.loop-k-test.true

pub loop-k-preserved : goal.loop-k-preserved
loop-k-preserved c =
    let word = word_of c.args.words.now (λ i. omega (arith, c.type_inv.words i)) (c.loop-k.k * 8) (omega (arith, c.loop-k-test.true)) _ c.u64_of.ensures.is in
    writing_next _ _ _ _ _ _ _ _ _ _ c.loop-k.invariant (words_more c.args.words.now c.loop-k.k) (rw word at c.put-end.ensures.0)

pub returns : goal.returns
returns c =
    let none = part_none c.args.words.now (c.loop-k.k * 8) (omega (arith, c.loop-k-test.false, c.requires.1)) in
    writing_done _ _ _ _ _ _ _ c.loop-k.invariant none c.requires.0 (omega (arith, c.loop-k.invariant.long, ap length none))
