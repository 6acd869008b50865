use Rattle.std.proofs.Common.{arith}
use Rattle.std.proofs.lemmas.Bool.Decides.{nat_tests}
use Rattle.pool.specs.Pool.{pool_marked}
use Rattle.pool.proofs.marked_near.Goals as goal

pub returns-then-i-pool : goal.returns-then-i-pool
unfolding pool_marked
returns-then-i-pool c = grind (arith, nat_tests)

pub returns-else-i-pool : goal.returns-else-i-pool
unfolding pool_marked
returns-else-i-pool c = grind (arith, nat_tests)
