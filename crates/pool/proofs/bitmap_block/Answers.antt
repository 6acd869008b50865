use Rattle.std.proofs.Common.{arith}
use Rattle.std.proofs.lemmas.Bool.Decides.{nat_tests}
use Rattle.pool.specs.clauses.Place.{bitmap_block, block_in}
use Rattle.pool.proofs.bitmap_block.Goals as goal

pub returns-then-pool-index : goal.returns-then-pool-index
unfolding block_in
returns-then-pool-index c = grind (arith, nat_tests)

pub returns : goal.returns
unfolding block_in bitmap_block
returns c = grind (arith, nat_tests)
