use Rattle.std.proofs.Common.{arith}
use Rattle.std.proofs.lemmas.Bool.Decides.{nat_tests}
use Rattle.pool.specs.clauses.Unused.{unused_one}
use Rattle.pool.proofs.unused_one.Goals as goal

pub returns : goal.returns
unfolding unused_one
returns c = grind (arith, nat_tests)
