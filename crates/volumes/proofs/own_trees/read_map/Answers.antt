use native.Mathlib.Omega.{arith}
use mathlib.Core.Path.{refl, sym, ◌∙◌}
use borrow.Author.Tests.{lt-ltb, le-ltb}
use Rattle.blocks.specs.Reads.{run}
use Rattle.blocks.proofs.Laws.{at_err, at_ok, need_false, need_true}
use Rattle.volumes.specs.Volumes.{read_map}
use Rattle.volumes.proofs.own_trees.read_map.Goals as goal

pub returns-then-address-eq0 : goal.returns-then-address-eq0
unfolding read_map
returns-then-address-eq0 c = sym (need_false _ _ _ _ (le-ltb 0 _ (omega arith)))

pub returns-in_err-object : goal.returns-in_err-object
unfolding read_map
returns-in_err-object c = at_err _ _ _ _ c.raw_block.ensures.block _ _ _ c.in_err-object.was _ c.from_residual.ensures.1 ∙ sym (need_true _ _ _ _ (lt-ltb 0 _ (omega arith)))

pub returns : goal.returns
unfolding read_map run
returns c = at_ok _ _ _ _ c.raw_block.ensures.block _ _ c.in_ok-object.was _ (rw c.u64_of.ensures.is refl) ∙ sym (need_true _ _ _ _ (lt-ltb 0 _ (omega arith)))
