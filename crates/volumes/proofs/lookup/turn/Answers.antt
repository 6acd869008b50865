use mathlib.Core.Path.{refl, sym, ◌∙◌}
use borrow.Author.Tests.{eq-eqb, ne_eqb}
use Rattle.blocks.specs.Reads.{run}
use Rattle.blocks.proofs.Laws.{at_ok, is_given}
use Rattle.volumes.specs.Lookup.{lookup_from}
use Rattle.volumes.specs.clauses.Answers.{along_turn}
use Rattle.volumes.proofs.LookupLaws.{turn_err, turn_leaf, leaf_read}
use Rattle.volumes.proofs.lookup.turn.Goals as goal

pub returns-in_err-n : goal.returns-in_err-n
unfolding lookup_from
returns-in_err-n c = rw (← c.block-node.ensures) (turn_err _ _ _ _ _ _ _ _ _ (c.search.ensures _) _ _ c.in_err-n.was _ c.from_residual.ensures.1)

pub returns-then-n-eq0 : goal.returns-then-n-eq0
unfolding lookup_from along_turn run
returns-then-n-eq0 c = rw (← c.block-node.ensures) (at_ok _ _ _ _ (c.search.ensures _) _ _ c.in_ok-n.was _ (rw (eq-eqb _ 0 c.if-n-eq0.true) refl))

pub returns-in_err-place : goal.returns-in_err-place
returns-in_err-place c =
    rw (← c.block-node.ensures) (turn_err _ _ _ _ _ _ _ _ _ (c.entry.ensures _) _ _ c.in_err-place.was _ c.from_residual-in_err-place.ensures.1
    ∙ sym (turn_leaf _ _ _ _ _ _ _ (is_given _ _ _ _ (c.search.ensures _) _ c.in_ok-n.was) c.if-n-eq0.false (sym c.is_leaf.ensures ∙ c.if-is_leaf.true)))

pub returns-then-is_leaf : goal.returns-then-is_leaf
unfolding along_turn
returns-then-is_leaf c =
    rw (← c.block-node.ensures) (sym (leaf_read _ _ _ _ _ (is_given _ _ _ _ (c.entry.ensures _) _ c.in_ok-place.was))
    ∙ sym (turn_leaf _ _ _ _ _ _ _ (is_given _ _ _ _ (c.search.ensures _) _ c.in_ok-n.was) c.if-n-eq0.false (sym c.is_leaf.ensures ∙ c.if-is_leaf.true)))

pub returns-in_err-child : goal.returns-in_err-child
unfolding lookup_from
returns-in_err-child c = rw (← c.block-node.ensures) (at_ok _ _ _ _ (c.search.ensures _) _ _ c.in_ok-n.was _
    (rw (ne_eqb _ 0 c.if-n-eq0.false, sym c.is_leaf.ensures ∙ c.if-is_leaf.false) (turn_err _ _ _ _ _ _ _ _ _ c.child_at.ensures _ _ c.in_err-child.was _ c.from_residual-in_err-child.ensures.1)))

pub returns : goal.returns
unfolding lookup_from along_turn
returns c = rw (← c.block-node.ensures) (at_ok _ _ _ _ (c.search.ensures _) _ _ c.in_ok-n.was _
    (rw (ne_eqb _ 0 c.if-n-eq0.false, sym c.is_leaf.ensures ∙ c.if-is_leaf.false) (at_ok _ _ _ _ c.child_at.ensures _ _ c.in_ok-child.was _ refl)))
