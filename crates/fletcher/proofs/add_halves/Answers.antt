use borrow.Author.Rules.{rules}
use Rattle.fletcher.proofs.Laws.{half_two, halves_done, added_run}
use Rattle.fletcher.proofs.add_halves.Goals as goal

pub loop-at-preserved : goal.loop-at-preserved
loop-at-preserved c = let before = c.loop-at in (
  search rules,
  search rules,
  half_two _ _ _ _ _ _ (search rules) (search rules) before.invariant.2 c.plus-a.ensures c.plus-a-in-loop-at.ensures,
  half_two _ _ _ _ _ _ (search rules) (search rules) before.invariant.3 c.plus-b.ensures c.plus-b-in-loop-at.ensures,
)

pub returns : goal.returns
returns c = let after = c.loop-at in
    added_run _ _ _ _ (halves_done _ _ _ _ _ _ (search rules) (search rules) (search rules) after.invariant.2 after.invariant.3) c.reduced.ensures
