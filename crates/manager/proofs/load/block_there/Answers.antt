use Rattle.std.proofs.Common.{sym, ap, ◌∙◌, le-leb}
use Rattle.std.proofs.lemmas.Bool.{lt-leb}
use Rattle.blocks.specs.Reads.{given}
use Rattle.blocks.proofs.Laws.{need_true, need_false, at_ok, at_err, is_given, raw_there, raw_past}
use Rattle.manager.specs.clauses.Load.{read_block}
use Rattle.manager.specs.clauses.Place.{address_in}
use Rattle.manager.proofs.LoadLaws.{sum_given}
use Rattle.manager.proofs.load.block_there.Goals as goal

pub returns-then-at-manager : goal.returns-then-at-manager
unfolding read_block
returns-then-at-manager c = λ f. sym (need_false f _ _ _ (lt-leb _ _ c.if-at-manager.true))

pub returns-in_err-add : goal.returns-in_err-add
unfolding read_block
returns-in_err-add c = λ f. at_err _ _ f _ (c.add.ensures f) _ _ _ c.in_err-add.was _ c.from_residual.ensures.1 ∙ sym (need_true f _ _ _ (le-leb _ _ c.if-at-manager.false))

pub returns-in_err-address : goal.returns-in_err-address
unfolding read_block
returns-in_err-address c = λ f.
    at_ok _ _ f _ (c.add.ensures f) _ _ c.in_ok-add.was _ (at_err _ _ f _ (rw c.ring_index.ensures at (c.add-2.ensures f)) _ _ _ c.in_err-address.was _ c.from_residual-in_err-address.ensures.1)
    ∙ sym (need_true f _ _ _ (le-leb _ _ c.if-at-manager.false))

pub returns-then-container-address : goal.returns-then-container-address
unfolding read_block
returns-then-container-address c = λ f.
    at_ok _ _ f _ (c.add.ensures f) _ _ c.in_ok-add.was _ (at_ok _ _ f _ (rw c.ring_index.ensures at (c.add-2.ensures f)) _ _ c.in_ok-address.was _ (sym (raw_past f _ _ c.if-container-address.true)))
    ∙ sym (need_true f _ _ _ (le-leb _ _ c.if-at-manager.false))

pub returns : goal.returns
unfolding read_block address_in
returns c = λ f.
    let sum = rw c.ring_index.ensures at (c.add-2.ensures f) in
    let at = sum_given f _ _ _ (is_given _ _ f _ sum _ c.in_ok-address.was) in
    at_ok _ _ f _ (c.add.ensures f) _ _ c.in_ok-add.was _ (at_ok _ _ f _ sum _ _ c.in_ok-address.was _ (ap (λ n. given (f n)) at ∙ sym (raw_there f _ _ c.if-container-address.false)))
    ∙ sym (need_true f _ _ _ (le-leb _ _ c.if-at-manager.false))
