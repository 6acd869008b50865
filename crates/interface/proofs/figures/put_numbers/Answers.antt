use Rattle.interface.proofs.Laws.{same_stores, part_stored, parts_stored}
use Rattle.interface.specs.clauses.Stored.{lost_number}
use borrow.Author.Rules.{rules}
use lib.ListN.{length}
use native.Mathlib.Nat.{add-zero, sub_self}
use Prim.Native.Nat.{suc, ◌+◌, ◌-◌, ◌≤◌, ◌<◌}
use mathlib.Core.Path.{◌≡◌, refl, ◌∙◌}
use Rattle.interface.proofs.figures.put_numbers.Goals as goal

pub loop-i-init : goal.loop-i-init
loop-i-init c = (search rules, search rules, rw (sub_self, add-zero) refl)

pub loop-i-preserved : goal.loop-i-preserved
loop-i-preserved c = let a = c.args in
    let i = c.loop-i.i in
    let inside : a.to ≤ length a.lost = search rules in
    let left : i < a.to = search rules in
    let next : a.at + (i + 1 - a.from) ≡ suc (a.at + (i - a.from)) = search rules in
    (search rules, search rules, part_stored (lost_number a.first) _ _ inside _ _ (record { count = 0; first = 0 }) _ _ _ _ c.put.ensures c.lost_number.ensures next left ∙ c.loop-i.invariant.2)

pub shape_of-figures : goal.shape_of-figures
shape_of-figures c = same_stores _ _ _ _ _ _ c.loop-i.invariant.2

pub returns : goal.returns
returns c = let a = c.args in
    let inside : a.to ≤ length a.lost = search rules in
    let ended : c.loop-i.i ≡ a.to = search rules in
    parts_stored (lost_number a.first) _ _ inside _ _ _ _ _ _ ended c.loop-i.invariant.2
