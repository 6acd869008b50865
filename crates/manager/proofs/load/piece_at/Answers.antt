use Rattle.std.proofs.Common.{arith}
use Rattle.manager.proofs.LoadLaws.{rest_words, piece_cut}
use Rattle.manager.proofs.load.piece_at.Goals as goal

pub returns : goal.returns
returns c = let a = c.args in
    let rest = rest_words _ _ _ c.requires.0 a.pos c.requires.2 in
    piece_cut _ _ _ c.requires.0 _ c.requires.2 _ _ _ c.ring_block-block.ensures c.part_of.ensures (omega arith) (omega arith) (omega arith) (omega arith)
