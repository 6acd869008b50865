use Rattle.space_check.proofs.CheckLaws.{settled_early, take_early}
use Rattle.space_check.specs.Check.{settle, rest, pass}
use Rattle.checkpoint.specs.clauses.Answers.{taken_as}
use Rattle.blocks.proofs.Laws.{then_given, then_refused}
use mathlib.Core.Path.{sym, ap, ◌∙◌}
use Rattle.space_check.proofs.passes.check_in.Goals as goal

pub returns-in-Err : goal.returns-in-Err
unfolding pass
returns-in-Err c = let e = sym c.take_superblock.ensures ∙ ap (taken_as _ _) c.in-Err.is in
    settled_early _ _ _ _ (then_refused _ _ (rest c.args.geometry c.args.map.now) _ e) (take_early _ _ _ e) _ c.refusal.ensures

pub returns-in-Ok : goal.returns-in-Ok
unfolding pass
returns-in-Ok c = c.check_taken.ensures ∙ ap (settle _ _) (sym (then_given _ _ (rest c.args.geometry c.args.map.now) _ (sym c.take_superblock.ensures ∙ ap (taken_as _ _) c.in-Ok.is)))
