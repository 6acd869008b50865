use mathlib.Core.Path.{sym}
use Rattle.fields.specs.Fields.{bit_at}
use Rattle.fields.proofs.Laws.{bit_past}
use Rattle.fields.proofs.bit_at.Goals as goal

pub returns-then-bitmap-j : goal.returns-then-bitmap-j
returns-then-bitmap-j c = sym (bit_past _ _ c.if-bitmap-j.true)

pub returns : goal.returns
unfolding bit_at
returns c = c.bit_of.ensures
