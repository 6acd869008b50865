use Rattle.std.proofs.Common.{◌∙◌, rules}
use Rattle.blocks.specs.Blocks.{block_of}
use Rattle.checkpoint.specs.clauses.InPlace.{test_turn}
use Rattle.checkpoint.proofs.ChainLaws.{loads_ring}
use Rattle.checkpoint.proofs.chain.Chain.loads.Goals as goal

pub returns : goal.returns
returns c =
    let s = c.args.self in
    c.walk.ensures (test_turn (block_of s.image.now s.size) s.geometry s.sb.now) (λ k r h p. search rules)
    ∙ rw c.chain_blocks.ensures.0 (loads_ring _ _ _ c.requires)
