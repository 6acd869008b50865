use Rattle.std.proofs.Common.{sym, ◌∙◌, ◌≤◌, ltb, leb, rules, arith}
use Rattle.blocks.specs.Reads.{run}
use native.Mathlib.Nat.{mul-le-mul}
use borrow.Author.Tests.{leb-true}
use Rattle.blocks.proofs.Laws.{and_right}
use Rattle.checkpoint.proofs.OpeningLaws.{allowed_size}
use Rattle.checkpoint.proofs.NeedLaws.{need_ok, need_err, handed_on}
use Rattle.checkpoint.specs.Geometry.{allowed}
use Rattle.checkpoint.proofs.block_zero.allowed.Goals as goal

pub returns-in_err-need : goal.returns-in_err-need
unfolding allowed
returns-in_err-need c = λ f. search (rules, need_ok, need_err, handed_on _ _ _ c.from_residual.ensures.1 c.in_err-need.ensures.failed.1) depth 9

pub returns-in_err-need-2 : goal.returns-in_err-need-2
unfolding allowed
returns-in_err-need-2 c = λ f. search (rules, need_ok, need_err, handed_on _ _ _ c.from_residual-in_err-need-2.ensures.1 c.in_err-need-2.ensures.failed.1) depth 9

pub returns-in_err-need-3 : goal.returns-in_err-need-3
unfolding allowed
returns-in_err-need-3 c = λ f. search (rules, need_ok, need_err, handed_on _ _ _ c.from_residual-in_err-need-3.ensures.1 c.in_err-need-3.ensures.failed.1) depth 9

pub returns-in_err-need-4 : goal.returns-in_err-need-4
unfolding allowed
returns-in_err-need-4 c = λ f. search (rules, need_ok, need_err, handed_on _ _ _ c.from_residual-in_err-need-4.ensures.1 c.in_err-need-4.ensures.failed.1) depth 9

pub returns-in_err-need-5 : goal.returns-in_err-need-5
unfolding allowed
returns-in_err-need-5 c = λ f. search (rules, need_ok, need_err, handed_on _ _ _ c.from_residual-in_err-need-5.ensures.1 c.in_err-need-5.ensures.failed.1) depth 9

pub returns-in_err-need-6 : goal.returns-in_err-need-6
unfolding allowed
returns-in_err-need-6 c = λ f. search (rules, need_ok, need_err, handed_on _ _ _ c.from_residual-in_err-need-6.ensures.1 c.in_err-need-6.ensures.failed.1) depth 9

pub returns : goal.returns
unfolding allowed run
returns c = λ f. search (rules, need_ok) depth 9

pub overflow_mul-count : goal.overflow_mul-count
overflow_mul-count c =
    let small : c.args.geometry.size ≤ 65536 = (allowed_size _ (sym c.size_allowed.ensures ∙ c.in_ok-need.ensures.held)).most in
    let few : c.args.geometry.count ≤ 4294967295 = leb-true _ _ (and_right (ltb 0 c.args.geometry.count) (leb c.args.geometry.count 4294967295) (sym c.count_allowed.ensures ∙ c.in_ok-need-2.ensures.held)) in
    record { fits = omega (arith, mul-le-mul few small) }
