use Rattle.nodes.proofs.Laws.{pointer_ghost, pointer_field}
use mathlib.Core.Path.{sym, ◌∙◌}
use Rattle.nodes.proofs.entries.pointer.Goals as goal

pub returns-in_err-part : goal.returns-in_err-part
returns-in_err-part c = λ f. pointer_ghost f _ _ _ (sym c.ok_or.ensures.value ∙ c.in_err-part.was) _ c.from_residual.ensures.1

pub returns : goal.returns
returns c = λ f. c.field_in.ensures f ∙ sym (pointer_field f _ _ _ (sym c.ok_or.ensures.value ∙ c.in_ok-part.was))
