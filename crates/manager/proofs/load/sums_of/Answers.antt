use Rattle.std.proofs.Common.{refl, ◌∙◌, arith, rules}
use Rattle.fletcher.specs.Fletcher.{checksum}
use Rattle.manager.proofs.Laws.{placed_length}
use Rattle.manager.proofs.LoadLaws.{sums_more, sums_done}
use Rattle.manager.proofs.load.sums_of.Goals as goal

pub loop-pos-init : goal.loop-pos-init
unfolding checksum
loop-pos-init c = (search rules, search rules, refl)

pub overflow_add-pos : goal.overflow_add-pos
overflow_add-pos c = omega (arith, placed_length)

pub loop-pos-preserved : goal.loop-pos-preserved
loop-pos-preserved c = (omega (arith, placed_length), omega arith, sums_more _ _ _ _ _ c.piece_at-piece.ensures c.add-sums.ensures ∙ c.loop-pos.invariant.2)

pub returns : goal.returns
returns c = sums_done _ _ _ _ (placed_length _ _ _) c.loop-pos-test.false ∙ c.loop-pos.invariant.2
