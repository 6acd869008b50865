use borrow.Author.Rules.{rules}
use mathlib.Core.Path.{refl}
use Rattle.fletcher.proofs.Laws.{half_more, half_done, added_run}
use Rattle.fletcher.proofs.add_rest.Goals as goal

pub loop-at-preserved : goal.loop-at-preserved
loop-at-preserved c = (search rules, half_more _ _ _ _ _ _ refl (search rules) (search rules) c.loop-at.invariant.1 c.plus-sums.ensures)

pub returns : goal.returns
returns c = added_run _ _ _ _ (half_done _ _ _ _ c.loop-at.invariant.1 (search rules)) c.reduced.ensures
