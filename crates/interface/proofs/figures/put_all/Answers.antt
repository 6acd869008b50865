use mathlib.Core.Path.{refl, ◌∙◌}
use native.Mathlib.Nat.{add-zero}
use native.Mathlib.Omega.{arith}
use Rattle.interface.proofs.Laws.{same_stores, number_stored, numbers_stored}
use Rattle.interface.proofs.figures.put_all.Goals as goal

pub loop-i-init : goal.loop-i-init
loop-i-init c = rw add-zero refl

pub loop-i-preserved : goal.loop-i-preserved
loop-i-preserved c = number_stored _ _ _ _ _ _ c.put.ensures refl (omega arith) ∙ c.loop-i.invariant

pub shape_of-figures : goal.shape_of-figures
shape_of-figures c = same_stores _ _ _ _ _ _ c.loop-i.invariant

pub returns : goal.returns
returns c = numbers_stored _ _ _ _ _ (omega arith) c.loop-i.invariant
