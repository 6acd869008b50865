use Rattle.node_build.proofs.RegionLaws.{wrote_as, width_fixed, width_variable, slot_fixed, slot_variable}
use Rattle.writers.proofs.Laws.{wrote_then}
use native.Mathlib.Omega.{arith}
use Rattle.node_build.proofs.regions.put_slot.Goals as goal

pub put-value-requires : goal.put-value-requires
put-value-requires c = omega (arith, width_fixed _ _ _ c.in-Fixed.is)

pub put-requires : goal.put-requires
put-requires c = omega (arith, width_fixed _ _ _ c.in-Fixed.is)

pub put-a-requires : goal.put-a-requires
put-a-requires c = omega (arith, width_variable _ c.in-Variable.is)

pub put-b-requires : goal.put-b-requires
put-b-requires c = omega (arith, width_variable _ c.in-Variable.is)

pub put-c-requires : goal.put-c-requires
put-c-requires c = omega (arith, width_variable _ c.in-Variable.is)

pub put-requires-in-Variable : goal.put-requires-in-Variable
put-requires-in-Variable c = omega (arith, width_variable _ c.in-Variable.is)

pub returns-in-Fixed : goal.returns-in-Fixed
returns-in-Fixed c = wrote_as (slot_fixed _ _ _ c.in-Fixed.is _ _ _ _) (wrote_then c.put-value.ensures.0 c.put.ensures.0)

pub returns-in-Variable : goal.returns-in-Variable
returns-in-Variable c = wrote_as (slot_variable _ c.in-Variable.is _ _ _ _) (wrote_then (wrote_then (wrote_then c.put-a.ensures.0 c.put-b.ensures.0) c.put-c.ensures.0) c.put-in-Variable.ensures.0)
