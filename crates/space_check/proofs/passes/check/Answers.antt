use Rattle.space_check.proofs.CheckLaws.{check_refused, check_opened, opened_ready}
use Rattle.blocks.proofs.Laws.{is_given, is_refused}
use mathlib.Core.Path.{sym, ◌∙◌}
use Rattle.space_check.proofs.passes.check.Goals as goal

pub check_in-requires : goal.check_in-requires
check_in-requires c = opened_ready _ c.args.map.now _ (is_given _ _ _ _ c.geometry.ensures _ c.in-Ok.is)

pub returns-in-Err : goal.returns-in-Err
returns-in-Err c = check_refused _ _ _ (is_refused _ _ _ _ c.geometry.ensures _ c.in-Err.is) _ c.refusal.ensures

pub returns-in-Ok : goal.returns-in-Ok
returns-in-Ok c = c.check_in.ensures ∙ sym (check_opened _ c.args.map.now _ (is_given _ _ _ _ c.geometry.ensures _ c.in-Ok.is))
