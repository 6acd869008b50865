use Rattle.node_build.proofs.RegionLaws.{width_fixed, width_variable}
use Prim.Native.Nat.{◌*◌}
use mathlib.Core.Path.{sym, ap}
use Rattle.node_build.proofs.layout.table_length.Goals as goal

pub returns-in-Fixed : goal.returns-in-Fixed
returns-in-Fixed c = ap (λ w. c.args.reserved * w) (sym (width_fixed _ _ _ c.in-Fixed.is))

pub returns-in-Variable : goal.returns-in-Variable
returns-in-Variable c = ap (λ w. c.args.reserved * w) (sym (width_variable _ c.in-Variable.is))
