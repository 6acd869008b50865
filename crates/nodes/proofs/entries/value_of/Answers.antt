use Rattle.blocks.proofs.Laws.{at_err, at_ok, is_refused, is_given}
use Rattle.nodes.proofs.Laws.{value_ghost, value_before, value_cut}
use native.Mathlib.Omega.{arith}
use mathlib.Core.Path.{sym, ◌∙◌, refl}
use Rattle.blocks.specs.Reads.{run}
use Rattle.nodes.proofs.entries.value_of.Goals as goal

pub returns-then-slot-eq-GHOST : goal.returns-then-slot-eq-GHOST
returns-then-slot-eq-GHOST c = λ f. sym (value_ghost f _ _ c.if-slot-eq-GHOST.true)

pub returns-then-end-slot : goal.returns-then-end-slot
returns-then-end-slot c = λ f. sym (value_before f _ _ c.if-slot-eq-GHOST.false (omega arith))

pub returns-in_err-value : goal.returns-in_err-value
returns-in_err-value c = λ f. at_err _ _ f _ (c.cut.ensures f) _ _ _ c.in_err-value.was _ c.from_residual.ensures.1 ∙ sym (value_cut f _ _ c.if-slot-eq-GHOST.false (omega arith) _ (omega arith))

pub returns : goal.returns
unfolding run
returns c = λ f. at_ok _ _ f _ (c.cut.ensures f) _ _ c.in_ok-value.was _ refl ∙ sym (value_cut f _ _ c.if-slot-eq-GHOST.false (omega arith) _ (omega arith))
