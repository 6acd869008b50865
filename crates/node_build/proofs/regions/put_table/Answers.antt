use Rattle.node_build.specs.Build.{slot_width}
use Rattle.node_build.proofs.Laws.{slots_inside, table_put}
use native.Mathlib.Omega.{arith}
use Prim.Native.Nat.{◌+◌, ◌-◌}
use mathlib.Core.Path.{ap}
use Rattle.node_build.proofs.regions.put_table.Goals as goal

pub returns : goal.returns
returns c = let first = c.put_slots-end in
    (table_put _ _ _ _ _ _ _ _ _ _ _ c.requires.0.0 c.requires.1.few first.ensures.1 (ap (λ t. c.args.at + t - first.result) c.requires.1.table_is) first.ensures.0 c.put_zeros.ensures.0, omega (arith, c.put_zeros.ensures.1, first.ensures.1, c.requires.1.table_is, slots_inside _ _ (slot_width c.args.sizes) c.requires.1.few))
