use Rattle.std.proofs.Common.{rules}
use Rattle.blocks.specs.Reads.{run}
use Rattle.checkpoint.specs.Checkpoint.{admit}
use Rattle.checkpoint.proofs.NeedLaws.{need_ok, need_err, handed_on}
use Rattle.checkpoint.proofs.choice.admit.Goals as goal

pub returns-in_err-need : goal.returns-in_err-need
unfolding admit
returns-in_err-need c = λ t is f. search (rules, need_ok, need_err, handed_on _ _ _ c.from_residual.ensures.1 c.in_err-need.ensures.failed.1)

pub returns-in_err-need-2 : goal.returns-in_err-need-2
unfolding admit
returns-in_err-need-2 c = λ t is f. rw is (search (rules, need_ok, need_err, handed_on _ _ _ c.from_residual-in_err-need-2.ensures.1 c.in_err-need-2.ensures.failed.1))

pub returns : goal.returns
unfolding admit run
returns c = λ t is f. rw is (search (rules, need_ok))
