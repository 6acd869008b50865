use Rattle.volumes.specs.Lookup.{lookup_from, lookup_le}
use Rattle.blocks.specs.Reads.{run}
use Rattle.blocks.specs.Blocks.{block_of}
use mathlib.Core.Path.{◌≡◌}
use Rattle.volumes.proofs.ObjectMap.lookup.Given as goal

abbrev pub invariant-loop-level : goal.invariant-loop-level
invariant-loop-level l =
    let o = l.self in
    let f = block_of l.image o.container.size in
    run f (lookup_from o.container o.description l.id l.level (f l.at.0)) ≡ run f (lookup_le o.container o.description l.id (f o.root.0))
