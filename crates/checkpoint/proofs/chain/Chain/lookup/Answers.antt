use Rattle.std.proofs.Common.{◌∙◌, rules}
use Rattle.blocks.specs.Blocks.{block_of}
use Rattle.checkpoint.specs.clauses.InPlace.{look_turn}
use Rattle.checkpoint.proofs.ChainLaws.{lookup_ring}
use Rattle.checkpoint.proofs.chain.Chain.lookup.Goals as goal

pub returns : goal.returns
returns c =
    let s = c.args.self in
    c.walk.ensures (look_turn (block_of s.image.now s.size) s.geometry s.sb.now c.args.id) (λ k r h p. search rules)
    ∙ rw c.chain_blocks.ensures.0 (lookup_ring _ _ _ _)
