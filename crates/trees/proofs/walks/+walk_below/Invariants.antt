use Prim.Native.Nat.{◌%◌}
use mathlib.Core.Path.{◌≡◌}
use Rattle.blocks.specs.Blocks.{block_of}
use Rattle.block_map.specs.clauses.Maps.{Kept}
use Rattle.claims.specs.Claims.{claim_node}
use Rattle.trees.specs.clauses.Answers.{walked}
use Rattle.trees.proofs.WalkLaws.{each_left}
use Rattle.trees.proofs.walks.+walk_below.Given as goal

abbrev pub decreases-walk_below : goal.decreases-walk_below
decreases-walk_below l = l.levels

-- what is left of the children is the whole
abbrev pub invariant-loop-i : goal.invariant-loop-i
invariant-loop-i l = Kept l.container.count l.initial.map l.map
    × (each_left (block_of l.image l.container.size) (claim_node l.container (l.kind % 16)) l.container l.description l.below l.node l.i (walked l.map l.walked) ≡ each_left (block_of l.image l.container.size) (claim_node l.container (l.kind % 16)) l.container l.description l.below l.node l.initial.i (walked l.initial.map l.initial.walked))
