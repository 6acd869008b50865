use Rattle.std.proofs.Common.{refl, arith, rules}
use Rattle.pool.proofs.Laws.{counted_span, counted_done, block_part}
use Rattle.pool.proofs.unused_piece.Goals as goal

pub unused_byte-n-requires : goal.unused_byte-n-requires
unused_byte-n-requires c = (block_part _ _ _ _ _ refl _ c.bitmap_block-part.ensures, search rules, search rules)

pub loop-i-preserved : goal.loop-i-preserved
loop-i-preserved c = (omega arith, counted_span c.loop-i.invariant.1 _ (omega arith) (omega arith) _ c.unused_byte-n.ensures)

pub returns : goal.returns
returns c = counted_done c.loop-i.invariant.1 c.loop-i-test.false
