use Rattle.std.proofs.Common.{◌≡◌, ◌+◌, ◌*◌, sym, refl, arith}
use Rattle.blocks.specs.Reads.{run}
use Rattle.manager.specs.Manager.{list_from}
use Rattle.manager.specs.clauses.Lists.{values}
use Rattle.manager.proofs.ListLaws.{list_fits, list_outside}
use Rattle.manager.proofs.lists.list_there.Goals as goal

pub returns-then-count-eq0 : goal.returns-then-count-eq0
unfolding run list_from values
returns-then-count-eq0 c = λ sm e f. rw c.if-count-eq0.true refl

pub returns-in_err-end : goal.returns-in_err-end
returns-in_err-end c = λ sm e f. grind (arith, list_outside f c.args.width sm c.args.count c.args.at, c.in_err-end.was)

pub returns-then-size-end : goal.returns-then-size-end
returns-then-size-end c = let end : c.in_ok-end.end ≡ c.args.at + c.args.width * c.args.count = grind (arith, c.in_ok-end.was) in
    λ sm e f. sym (list_outside f _ sm _ _ (omega arith) (omega arith))

pub returns : goal.returns
returns c = let end : c.in_ok-end.end ≡ c.args.at + c.args.width * c.args.count = grind (arith, c.in_ok-end.was) in
    λ sm e f. sym (list_fits f _ sm _ _ (omega arith))
