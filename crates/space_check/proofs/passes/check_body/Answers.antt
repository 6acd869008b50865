use Rattle.space_check.proofs.CheckLaws.{late_refused, late_done}
use Rattle.space_check.proofs.passes.check_body.Goals as goal

pub returns-in-Err : goal.returns-in-Err
returns-in-Err c = late_refused _ c.args.checkpoint _ _ _ c.requires.1 c.clear.ensures _ c.body.ensures _ c.in-Err.is _ c.refusal.ensures _ c.clear-in-Err.ensures
