use Rattle.std.proofs.Common.{rules}
use borrow.Author.Tests.{tests}
use Rattle.checkpoint.specs.Checkpoint.{is_ahead}
use Rattle.checkpoint.proofs.choice.is_ahead.Goals as goal

pub returns : goal.returns
unfolding is_ahead
returns c = search (rules, tests)
