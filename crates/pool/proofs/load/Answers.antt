use Rattle.blocks.specs.clauses.Images.{blocks_in}
use Rattle.blocks.proofs.Laws.{at_err, at_ok}
use Rattle.pool.specs.Pool.{load_pool}
use Rattle.pool.proofs.load.Goals as goal

pub returns-in_err-pool_indices : goal.returns-in_err-pool_indices
unfolding load_pool
returns-in_err-pool_indices c = let f = blocks_in c.args.image c.args.container in
    at_err _ _ f _ (c.pool_indices.ensures f) _ _ _ c.in_err-pool_indices.was _ c.from_residual.ensures.1

pub returns : goal.returns
unfolding load_pool
returns c = let f = blocks_in c.args.image c.args.container in
    at_ok _ _ f _ (c.pool_indices.ensures f) _ _ c.in_ok-pool_indices.was _ (rw c.pool_place.ensures at c.load_at.ensures)
