use native.Mathlib.Omega.{arith}
use native.Mathlib.Nat.{sub-zero}
use Prim.Native.Nat.{ℕ, ◌-◌}
use mathlib.Core.List.{List, []}
use mathlib.Core.Path.{◌≡◌, refl, sym, ◌∙◌}
use Rattle.blocks.specs.Reads.{no_blocks}
use Rattle.blocks.proofs.Laws.{at_err, is_given}
use Rattle.nodes.specs.Node.{key_count}
use Rattle.trees.specs.clauses.Walks.{pointers_down}
use Rattle.trees.proofs.WalkLaws.{children_left, children_done, children_next, children_more}
use Rattle.trees.proofs.children.children_there.Goals.{At-loop-i}
use Rattle.trees.proofs.children.children_there.Goals as goal

-- what is left at the loop's head is the whole
whole : (c : At-loop-i) (f : ℕ → List ℕ) → let a = c.args in children_left f a.description a.node.now (c.key_count-i-end.result - c.loop-i.i) c.loop-i.i (pointers_down a.description a.node.now c.loop-i.i) ≡ children_left f a.description a.node.now (key_count a.node.now) 0 []
whole c f = c.loop-i.invariant f ∙ rw c.key_count-i-end.ensures.0 refl

pub loop-i-init : goal.loop-i-init
unfolding pointers_down
loop-i-init c = λ f. rw sub-zero refl

pub returns-in_err-pointer_of : goal.returns-in_err-pointer_of
returns-in_err-pointer_of c = λ f. at_err _ _ f _ (c.pointer_of.ensures f) _ _ _ c.in_err-pointer_of.was _ c.from_residual.ensures.1 ∙ (sym (children_next f _ _ _ _ c.loop-i-test.true _) ∙ whole (goal.at.returns-in_err-pointer_of c).At-loop-i f)

pub loop-i-preserved : goal.loop-i-preserved
loop-i-preserved c = λ f. sym (children_more f _ _ _ _ c.loop-i-test.true _ (is_given _ _ _ _ (c.pointer_of.ensures f) _ c.in_ok-pointer_of.was) (is_given _ _ _ _ (c.pointer_of.ensures no_blocks) _ c.in_ok-pointer_of.was)) ∙ c.loop-i.invariant f

pub returns : goal.returns
returns c = λ f. rw c.key_count-i-end.ensures.0 refl ∙ (sym (children_done f _ _ _ _ (omega (arith, c.loop-i.auto.i-end))) ∙ whole (goal.at.returns c).At-loop-i f)
