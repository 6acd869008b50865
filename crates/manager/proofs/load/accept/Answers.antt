use Rattle.std.proofs.Common.{arith}
use Rattle.std.proofs.lemmas.Grind.{common_steps}
use Rattle.std.proofs.lemmas.Bool.Decides.{nat_tests}
use Rattle.blocks.specs.Reads.{run, need, ◌>>=◌}
use Rattle.manager.specs.Manager.{accepted}
use Rattle.manager.proofs.Laws.{placed_length}
use Rattle.manager.proofs.load.accept.Goals as goal

pub returns-then-not-verify : goal.returns-then-not-verify
unfolding accepted run need ◌>>=◌
returns-then-not-verify c = grind (arith, common_steps)

pub returns-then-manager-lt-LEAST_MANAGER : goal.returns-then-manager-lt-LEAST_MANAGER
unfolding accepted run need ◌>>=◌
returns-then-manager-lt-LEAST_MANAGER c = grind (arith, nat_tests, placed_length)

pub returns : goal.returns
unfolding accepted run need ◌>>=◌
returns c = grind (arith, nat_tests, placed_length)
