use Rattle.space_check.proofs.CheckLaws.{ready_holds, settled_early, admit_early, taken_passes}
use Rattle.space_check.specs.Check.{rest}
use Rattle.checkpoint.specs.clauses.Answers.{taken_in}
use Rattle.blocks.proofs.Laws.{is_given, is_refused, then_refused}
use Rattle.blocks.specs.Blocks.{block_of}
use mathlib.Core.Path.{sym}
use Rattle.space_check.proofs.passes.check_taken.Goals as goal

pub check_body-requires : goal.check_body-requires
check_body-requires c = let a = c.args in
    let f = block_of a.image.now a.geometry.size in
    ready_holds a.image.now _ a.geometry a.superblock _ (is_given _ _ f _ (c.admit.ensures (taken_in f a.geometry a.superblock) (sym c.block-sb.ensures) f) _ c.in-Ok.is) c.requires.0

pub returns-in-Err : goal.returns-in-Err
unfolding rest
returns-in-Err c = let a = c.args in
    let f = block_of a.image.now a.geometry.size in
    let t = taken_in f a.geometry a.superblock in
    let e = is_refused _ _ f _ (c.admit.ensures t (sym c.block-sb.ensures) f) _ c.in-Err.is in
    settled_early _ _ _ _ (then_refused _ _ _ _ e) (admit_early _ _ t _ e) _ c.refusal.ensures

pub returns-in-Ok : goal.returns-in-Ok
returns-in-Ok c = let a = c.args in
    let f = block_of a.image.now a.geometry.size in
    taken_passes a.image.now _ a.geometry a.superblock _ (is_given _ _ f _ (c.admit.ensures (taken_in f a.geometry a.superblock) (sym c.block-sb.ensures) f) _ c.in-Ok.is) c.requires.1 _ c.check_body.ensures
