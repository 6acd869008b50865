use Rattle.std.proofs.Common.{rules}
use Rattle.checkpoint.specs.Geometry.{geometry}
use Rattle.checkpoint.proofs.NeedLaws.{need_ok, need_err, handed_on}
use Rattle.checkpoint.proofs.block_zero.geometry.Goals as goal

pub returns-in_err-need : goal.returns-in_err-need
unfolding geometry
returns-in_err-need c = search (rules, need_ok, need_err, handed_on _ _ _ c.from_residual.ensures.1 c.in_err-need.ensures.failed.1)

pub returns-in_err-need-2 : goal.returns-in_err-need-2
unfolding geometry
returns-in_err-need-2 c = search (rules, need_ok, need_err, handed_on _ _ _ c.from_residual-in_err-need-2.ensures.1 c.in_err-need-2.ensures.failed.1)

pub returns : goal.returns
unfolding geometry
returns c = rw (← c.stated.ensures) (search (rules, need_ok, c.allowed.ensures))
