use native.Mathlib.Omega.{arith}
use Rattle.blocks.specs.Reads.{no_blocks}
use Rattle.claims.specs.clauses.Answers.{end_of}
use Rattle.claims.proofs.Laws.{owned_first, owned_next, block_taken}
use Rattle.claims.proofs.own_from.Goals as goal

pub loop-next-init : goal.loop-next-init
loop-next-init c = (omega arith, owned_first _ _ _)

pub loop-next-preserved : goal.loop-next-preserved
loop-next-preserved c =
    (omega arith, owned_next _ _ _ _ _ _ c.loop-next.invariant.1 c.loop-next-test.true (λ log. block_taken _ _ _ log (rw (← c.cell.ensures, ← c.owner.ensures, ← c.takes.ensures) c.if-takes.true) c.requires.0 _ c.own_block.ensures))

pub shape_of-map : goal.shape_of-map
shape_of-map c = (c.loop-next.invariant.1 (end_of c.args.from) (omega arith) no_blocks).kept.long

pub returns : goal.returns
returns c = c.loop-next.invariant.1
