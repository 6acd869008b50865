use Rattle.std.proofs.Common.{rules}
use borrow.Author.Tests.{tests}
use Rattle.checkpoint.specs.Checkpoint.{is_after}
use Rattle.checkpoint.proofs.choice.is_after.Goals as goal

pub returns : goal.returns
unfolding is_after
returns c = search (rules, tests)
