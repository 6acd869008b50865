use Rattle.fields.proofs.Laws.{value_of, absent_of}
use native.Mathlib.Omega.{arith}
use Rattle.fields.proofs.field_at.Goals as goal

pub returns-then-at-n : goal.returns-then-at-n
returns-then-at-n c = value_of _ _ _ _ c.inside.ensures (omega arith)

pub returns-else-at-n : goal.returns-else-at-n
returns-else-at-n c = absent_of _ _ _ (omega arith)

pub returns-else-width-n : goal.returns-else-width-n
returns-else-width-n c = absent_of _ _ _ (omega arith)
