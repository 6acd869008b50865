use Rattle.std.proofs.Common.{◌≡◌, Ok, sym, ◌∙◌}
use Rattle.blocks.proofs.Laws.{at_err}
use Rattle.pool.specs.Pool.{pool_from}
use Rattle.pool.proofs.LoadLaws.{blocks_go, pool_given, pool_short}
use Rattle.pool.proofs.load_at.Goals as goal

pub returns-in_err-bitmaps_there : goal.returns-in_err-bitmaps_there
unfolding pool_from
returns-in_err-bitmaps_there c = at_err _ _ _ _ (c.bitmaps_there.ensures ∙ sym (blocks_go _ _ c.args.pool)) _ _ _ c.in_err-bitmaps_there.was _ c.from_residual.ensures.1

pub returns-then-has_bits : goal.returns-then-has_bits
returns-then-has_bits c = let ok : c.bitmaps_there.result ≡ Ok tt = c.in_ok-bitmaps_there.was in
    pool_given _ _ c.args.pool c.requires (rw ok at c.bitmaps_there.ensures) _ c.has_bits.ensures c.if-has_bits.true

pub returns-else-has_bits : goal.returns-else-has_bits
returns-else-has_bits c = let ok : c.bitmaps_there.result ≡ Ok tt = c.in_ok-bitmaps_there.was in
    pool_short _ _ c.args.pool c.requires (rw ok at c.bitmaps_there.ensures) _ c.has_bits.ensures c.if-has_bits.false
