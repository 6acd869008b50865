use Rattle.blocks.specs.Reads.{run}
use Rattle.blocks.proofs.Laws.{at_err, at_ok}
use Rattle.space_check.specs.Check.{pool_part}
use mathlib.Core.Path.{refl}
use Rattle.space_check.proofs.load.load_pool.Goals as goal

pub returns-in_err-load : goal.returns-in_err-load
unfolding pool_part
returns-in_err-load c = at_err _ _ _ _ c.load.ensures _ _ _ c.in_err-load.was _ c.from_residual.ensures.1

pub returns : goal.returns
unfolding pool_part run
returns c = at_ok _ _ _ _ c.load.ensures _ _ c.in_ok-load.was _ (rw c.pool_place-pool.ensures refl)
