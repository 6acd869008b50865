use mathlib.Core.Path.{ap₂, ◌∙◌}
use lib.Dec.{eqb}
use native.Mathlib.Omega.{arith}
use Rattle.fletcher.proofs.Laws.{verifies_short, verifies_uneven, verifies_whole}
use Rattle.manager.proofs.Laws.{placed_length}
use Rattle.manager.proofs.load.verify.Goals as goal

pub returns-then-manager-lt-LEAST_OBJECT : goal.returns-then-manager-lt-LEAST_OBJECT
returns-then-manager-lt-LEAST_OBJECT c = verifies_short _ (rw placed_length (omega arith))

pub returns-then-manager-ne0 : goal.returns-then-manager-ne0
returns-then-manager-ne0 c = verifies_uneven _ (rw placed_length (omega arith)) (rw placed_length (omega arith))

pub returns : goal.returns
returns c = ap₂ eqb c.u64_of.ensures.is (c.seal.ensures ∙ c.sums_of-sums.ensures)
    ∙ verifies_whole _ (rw placed_length (omega arith)) (rw placed_length (omega arith))
