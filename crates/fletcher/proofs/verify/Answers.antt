use mathlib.Core.Path.{ap₂, ◌∙◌}
use native.Mathlib.Omega.{arith}
use lib.Dec.{eqb}
use Rattle.fletcher.proofs.Laws.{verifies_short, verifies_uneven, verifies_whole}
use Rattle.fletcher.proofs.verify.Goals as goal

pub returns-then-n-lt32 : goal.returns-then-n-lt32
returns-then-n-lt32 c = verifies_short _ (omega arith)

pub returns-then-n-ne0 : goal.returns-then-n-ne0
returns-then-n-ne0 c = verifies_uneven _ (omega arith) (omega arith)

pub returns : goal.returns
returns c = ap₂ eqb c.stored_checksum.ensures c.checksum.ensures ∙ verifies_whole _ (omega arith) (omega arith)
