use Rattle.node_build.proofs.RegionLaws.{flag_fixed, flag_variable}
use native.Mathlib.Omega.{arith}
use mathlib.Core.Path.{sym}
use Rattle.node_build.proofs.regions.fixed_flag.Goals as goal

pub returns-in-Fixed : goal.returns-in-Fixed
returns-in-Fixed c = (sym (flag_fixed _ _ _ c.in-Fixed.is), omega arith)

pub returns-in-Variable : goal.returns-in-Variable
returns-in-Variable c = (sym (flag_variable _ c.in-Variable.is), omega arith)
