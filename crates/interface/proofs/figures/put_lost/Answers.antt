use Rattle.interface.proofs.Laws.{stores_then}
use native.Mathlib.Omega.{arith}
use mathlib.Core.Path.{◌∙◌}
use Rattle.interface.proofs.figures.put_lost.Goals as goal

pub returns : goal.returns
returns c = let both = stores_then _ _ _ _ _ _ _ _ c.put_numbers.ensures c.put_numbers-2.ensures in
    (both.0 ∙ omega arith, both.1)
