use mathlib.Core.Path.{◌≡◌, refl, sym, ◌∙◌}
use native.Mathlib.Omega.{arith}
use Prim.Native.Nat.{ℕ, ◌-◌, ◌%◌}
use Rattle.blocks.specs.Reads.{run, no_blocks}
use Rattle.blocks.specs.Blocks.{block_of}
use Rattle.blocks.proofs.Laws.{at_ok, at_err, is_refused, is_given}
use Rattle.block_map.proofs.Laws.{kept_then}
use Rattle.report.proofs.StepLaws.{passed_on, stepped_ok}
use Rattle.nodes.specs.Walk.{walk_below}
use Rattle.claims.specs.Claims.{claim_node}
use Rattle.trees.specs.clauses.Answers.{walked}
use Rattle.trees.proofs.WalkLaws.{next_given, walk_entered, walk_leaf, walk_index, each_left, each_done, each_last, each_unread}
use Rattle.trees.proofs.walks.+walk_below.Goals.{At-loop-i}
use Rattle.trees.proofs.walks.+walk_below.Goals as goal

-- what is left of the children at the loop's head is the whole
whole : (t : ℕ) (c : At-loop-i t) → let a = c.args in let f = block_of a.image.now a.container.size in let claim = claim_node a.container (a.kind % 16) in each_left f claim a.container a.description (a.levels - 1) c.block-node.result.now c.loop-i.i (walked c.loop-i.map c.loop-i.walked) ≡ run f (walk_below claim a.container a.description a.levels a.address.0 (walked a.map.now a.from))
whole t c = c.loop-i.invariant.1
    ∙ (at_ok _ _ _ _ (c.children_there.ensures _) _ _ c.in_ok-children_there.was _ (rw c.key_count-i.ensures.0 refl)
    ∙ sym (walk_index _ _ _ _ _ _ _ c.requires.0 c.requires.1 c.requires.2 _ (stepped_ok (c.claim_node.ensures _) _ c.in_ok-log.was) _ c.block-node.ensures (sym c.is_leaf.ensures ∙ c.if-is_leaf.false)))

pub returns-in_err-log : goal.returns-in_err-log
returns-in_err-log t c = record {
  goes = at_err _ _ _ _ (c.claim_node.ensures (block_of c.args.image.now c.args.container.size)).goes _ _ _ c.in_err-log.was _ c.from_residual.ensures.1 ∙ sym (walk_entered _ _ _ _ _ _ _ c.requires.0 c.requires.1 c.requires.2);
  kept = (c.claim_node.ensures no_blocks).kept;
}

pub returns-then-is_leaf : goal.returns-then-is_leaf
returns-then-is_leaf t c = record {
  goes = sym (walk_leaf _ _ _ _ _ _ _ c.requires.0 c.requires.1 c.requires.2 _ (stepped_ok (c.claim_node.ensures _) _ c.in_ok-log.was) _ c.block-node.ensures (sym c.is_leaf.ensures ∙ c.if-is_leaf.true));
  kept = (c.claim_node.ensures no_blocks).kept;
}

pub returns-in_err-children_there : goal.returns-in_err-children_there
returns-in_err-children_there t c = record {
  goes = at_err _ _ _ _ (c.children_there.ensures _) _ _ _ c.in_err-children_there.was _ c.from_residual-in_err-children_there.ensures.1
      ∙ sym (walk_index _ _ _ _ _ _ _ c.requires.0 c.requires.1 c.requires.2 _ (stepped_ok (c.claim_node.ensures _) _ c.in_ok-log.was) _ c.block-node.ensures (sym c.is_leaf.ensures ∙ c.if-is_leaf.false));
  kept = (c.claim_node.ensures no_blocks).kept;
}

pub returns-in_err-read_next : goal.returns-in_err-read_next
returns-in_err-read_next t c = record {
  goes = passed_on _ _ _ c.from_residual-in_err-read_next.ensures.1 ∙ (sym (each_unread _ _ _ _ _ _ _ _ c.loop-i-test.true _ c.pointer_at.ensures _ (is_refused _ _ _ _ c.read_next.ensures _ c.in_err-read_next.was)) ∙ whole t (goal.at.returns-in_err-read_next t c).At-loop-i);
  kept = kept_then _ _ _ _ (c.claim_node.ensures no_blocks).kept c.loop-i.invariant.0;
}

pub walk_below-requires : goal.walk_below-requires
walk_below-requires t c = (omega (arith, c.decreases, c.requires.0), next_given _ _ _ _ _ _ (is_given _ _ _ _ c.read_next.ensures _ c.in_ok-read_next.was))

pub returns-in_err-walked : goal.returns-in_err-walked
returns-in_err-walked t c = record {
  goes = at_err _ _ _ _ c.walk_below.ensures.goes _ _ _ c.in_err-walked.was _ c.from_residual-in_err-walked.ensures.1 ∙ (sym (each_last _ _ _ _ _ _ _ _ c.loop-i-test.true _ c.pointer_at.ensures) ∙ whole t (goal.at.returns-in_err-walked t c).At-loop-i);
  kept = kept_then _ _ _ _ (c.claim_node.ensures no_blocks).kept (kept_then _ _ _ _ c.loop-i.invariant.0 c.walk_below.ensures.kept);
}

pub loop-i-preserved : goal.loop-i-preserved
loop-i-preserved t c = (kept_then _ _ _ _ c.loop-i.invariant.0 c.walk_below.ensures.kept, at_ok _ _ _ _ c.walk_below.ensures.goes _ _ c.in_ok-walked.was _ refl ∙ (sym (each_last _ _ _ _ _ _ _ _ c.loop-i-test.true _ c.pointer_at.ensures) ∙ c.loop-i.invariant.1))

pub returns : goal.returns
returns t c = record {
  goes = sym (each_done _ _ _ _ _ _ _ _ (omega arith)) ∙ whole t (goal.at.returns t c).At-loop-i;
  kept = kept_then _ _ _ _ (c.claim_node.ensures no_blocks).kept c.loop-i.invariant.0;
}
