use Rattle.nodes.proofs.Laws.{slot_fixed, slot_variable, slot_fixed_past, slot_variable_past}
use native.Mathlib.Omega.{arith}
use mathlib.Core.Path.{sym, ◌∙◌}
use Rattle.nodes.proofs.entries.slot.Goals as goal

pub returns-then-n-index : goal.returns-then-n-index
returns-then-n-index c = λ f. sym (slot_fixed_past f _ _ _ (sym c.is_fixed.ensures ∙ c.if-is_fixed.true) c.if-n-index.true)

pub returns-then-is_fixed : goal.returns-then-is_fixed
returns-then-is_fixed c = let tested = c in
    λ f. c.fixed_slot.ensures f ∙ sym (slot_fixed f _ _ _ _ (sym tested.is_fixed.ensures ∙ tested.if-is_fixed.true) (omega arith))

pub returns-then-n-index-2 : goal.returns-then-n-index-2
returns-then-n-index-2 c = λ f. sym (slot_variable_past f _ _ _ (sym c.is_fixed.ensures ∙ c.if-is_fixed.false) c.if-n-index-2.true)

pub returns : goal.returns
returns c = let tested = c in
    λ f. c.variable_slot.ensures f ∙ sym (slot_variable f _ _ _ _ (sym tested.is_fixed.ensures ∙ tested.if-is_fixed.false) (omega arith))
