use Prim.Native.Nat.{◌-◌}
use mathlib.Core.Path.{◌≡◌}
use Rattle.blocks.specs.Reads.{run}
use Rattle.blocks.specs.Blocks.{block_of}
use Rattle.checkpoint.specs.Superblock.{volume_places}
use Rattle.volumes.specs.clauses.Answers.{there_from}
use Rattle.volumes.proofs.ObjectMap.volumes_there.Given as goal

abbrev pub invariant-loop-place : goal.invariant-loop-place
invariant-loop-place l =
    let o = l.self in
    let f = block_of l.image o.container.size in
    let n = volume_places l.sb in
    run f (there_from o.container o.description (f o.root.0) l.sb (n - l.place) l.place) ≡ run f (there_from o.container o.description (f o.root.0) l.sb n 0)
