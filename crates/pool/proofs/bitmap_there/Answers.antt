use Rattle.std.proofs.Common.{ap, ◌∙◌}
use Rattle.blocks.specs.clauses.Answers.{there_as}
use Rattle.blocks.specs.clauses.Images.{blocks_in}
use Rattle.blocks.proofs.Laws.{at_err, at_ok, is_given}
use Rattle.manager.proofs.LoadLaws.{sum_given}
use Rattle.pool.specs.clauses.Place.{bitmap_block}
use Rattle.pool.specs.clauses.Load.{read_bitmap}
use Rattle.pool.proofs.bitmap_there.Goals as goal

pub returns-in_err-address : goal.returns-in_err-address
unfolding read_bitmap
returns-in_err-address c = let f = blocks_in c.args.image c.args.container in
    at_err _ _ f _ (rw c.index_at-at.ensures.is at (c.add.ensures f)) _ _ _ c.in_err-address.was _ c.from_residual.ensures.1

pub returns : goal.returns
unfolding read_bitmap bitmap_block
returns c = let f = blocks_in c.args.image c.args.container in
    let sum = rw c.index_at-at.ensures.is at (c.add.ensures f) in
    let at = sum_given f _ _ _ (is_given _ _ f _ sum _ c.in_ok-address.was) in
    at_ok _ _ f _ sum _ _ c.in_ok-address.was _ (ap (λ n. there_as (f n) c.raw_block.result) at ∙ c.raw_block.ensures.there f)
