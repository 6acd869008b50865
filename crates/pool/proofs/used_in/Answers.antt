use Rattle.std.proofs.Common.{arith}
use Rattle.std.proofs.lemmas.Bool.Decides.{nat_tests}
use Rattle.block_map.specs.BlockMap.{used_at}
use Rattle.pool.proofs.used_in.Goals as goal

pub returns : goal.returns
unfolding used_at
returns c = grind (arith, nat_tests)
