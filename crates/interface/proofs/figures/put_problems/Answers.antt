use mathlib.Core.Path.{refl, ◌∙◌}
use native.Mathlib.Nat.{add-zero}
use native.Mathlib.Omega.{arith}
use Rattle.report.specs.Report.{logged}
use Rattle.interface.specs.Figures.{problem_figures}
use Rattle.interface.proofs.Laws.{same_stores, row_stored, rows_stored}
use Rattle.interface.proofs.figures.put_problems.Goals as goal

pub loop-i-init : goal.loop-i-init
loop-i-init c = rw add-zero refl

pub loop-i-preserved : goal.loop-i-preserved
loop-i-preserved c = row_stored problem_figures 2 (λ x. refl) _ _ _ _ _ _ _ c.put_all.ensures (omega arith) ∙ c.loop-i.invariant

pub shape_of-figures : goal.shape_of-figures
shape_of-figures c = same_stores _ _ _ _ _ _ c.loop-i.invariant

pub returns : goal.returns
returns c = rows_stored problem_figures 2 (λ x. refl) _ _ _ _ _ logged (omega arith) (omega arith) c.loop-i.invariant
