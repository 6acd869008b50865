use Rattle.std.proofs.Common.{◌≡◌}
use Rattle.checkpoint.specs.Map.{map_count, mappings_of, lookup}
use Rattle.checkpoint.proofs.ChainLaws.{left}
use Rattle.checkpoint.proofs.chain.lookup_in_block.Given as goal

abbrev pub invariant-loop-i : goal.invariant-loop-i
invariant-loop-i l = left l.block l.id (map_count l.block) l.i ≡ lookup l.id (mappings_of l.block)
