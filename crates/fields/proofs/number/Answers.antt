use native.Mathlib.Omega.{arith}
use Rattle.fields.proofs.Laws.{number_past, number_rest}
use Rattle.fields.proofs.number.Goals as goal

pub returns-then-n-at : goal.returns-then-n-at
returns-then-n-at c = number_past _ _ _ (omega arith)

pub returns-then-left-most : goal.returns-then-left-most
returns-then-left-most c = number_rest _ _ _ _ (omega (arith, c.least-most.ensures)) c.inside.ensures
