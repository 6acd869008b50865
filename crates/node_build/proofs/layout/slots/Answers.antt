use Rattle.node_build.proofs.RegionLaws.{slots_fixed, slots_variable}
use native.Mathlib.Omega.{arith}
use Rattle.node_build.proofs.layout.slots.Goals as goal

pub returns-in-Fixed : goal.returns-in-Fixed
returns-in-Fixed c = (slots_fixed _ _ _ c.in-Fixed.is _ _ _ _ c.fixed_slots.ensures.0, omega (arith, c.fixed_slots.ensures.1))

pub returns-in-Variable : goal.returns-in-Variable
returns-in-Variable c = (slots_variable _ c.in-Variable.is _ _ _ _ c.variable_slots.ensures.0, c.variable_slots.ensures.1)
