use lib.ListN.{length}
use Prim.Native.Nat.{◌*◌}
use Rattle.blocks.proofs.Laws.{begins_past, begins_inside}
use Rattle.blocks.specs.Blocks.{block_of}
use Rattle.fields.proofs.Laws.{part_past}
use native.Mathlib.Omega.{arith}
use mathlib.Core.Path.{◌∙◌}
use Rattle.blocks.proofs.far_block_in.Goals as goal

pub returns-then-size-eq0 : goal.returns-then-size-eq0
unfolding block_of
returns-then-size-eq0 c = c.part_of.ensures ∙ rw c.if-size-eq0.true

pub returns-then-len-size : goal.returns-then-len-size
unfolding block_of
returns-then-len-size c = let start = c in
    let image = start.args.image.now in
    c.part_of-then-len-size.ensures ∙ part_past image 0 (length image) (start.args.block * start.args.size) start.args.size (omega arith) (begins_past (length image) start.args.size start.args.block (omega arith) c.if-len-size.true)

pub returns : goal.returns
unfolding block_of
returns c = c.part_of-2.ensures
