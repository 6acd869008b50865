use Rattle.node_build.proofs.RegionLaws.{space_put, pairs_put, wrote_as}
use Rattle.node_build.specs.clauses.Regions.{free_of}
use lib.ListN.{replicate}
use Rattle.writers.proofs.Laws.{wrote_length}
use native.Mathlib.Omega.{arith}
use mathlib.Core.Path.{refl, ap}
use Rattle.node_build.proofs.regions.put_entries.Goals as goal

pub returns : goal.returns
returns c = let l = c.requires.0 in
    let a = c.args in
    let table = c.put_table-keys.ensures.0 a.parts.now l.entries.1 in
    (space_put _ _ _ _ table (pairs_put a.plan.packed a.parts.now a.lengths.now (free_of a.plan) c.put_pairs-zeros.ensures (record { apart = omega (arith, l.holds, l.keys_are, l.values_are, c.put_table-keys.ensures.1); inside = omega (arith, wrote_length table) }) (omega (arith, l.holds, l.keys_are, l.values_are, c.put_table-keys.ensures.1, c.free_length-free.ensures)) (wrote_as (ap (λ n. replicate n 0) c.free_length-free.ensures) c.put_zeros.ensures.0)), refl)
