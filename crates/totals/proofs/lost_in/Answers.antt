use mathlib.Core.Path.{refl, sym, ◌∙◌}
use Prim.Native.Nat.{◌+◌, ◌-◌}
use native.Mathlib.Omega.{arith}
use Rattle.totals.specs.clauses.Counting.{first_kind}
use Rattle.totals.proofs.Laws.{lost_room, after_done, Walked, walked_skip, walked_add, walked_past}
use Rattle.totals.proofs.lost_in.Goals.{Joined-kind-ne-UNOWNED, then-kind-ne-UNOWNED+then-place-lt-KINDS, then-kind-ne-UNOWNED+else-place-lt-KINDS, else-kind-ne-UNOWNED}
use Rattle.totals.proofs.lost_in.Goals as goal

step : (c : Joined-kind-ne-UNOWNED) → Walked c.args.row.now c.args.start c.loop-i.i c.loop-i.lost c.if-kind-ne-UNOWNED.lost
step c =
    let more = c.loop-i-test.true in
    let kind = c.lost_kind-kind.ensures in
    elim c.if-kind-ne-UNOWNED.branch [
      | then-kind-ne-UNOWNED+then-place-lt-KINDS w ↦ walked_add _ _ _ _ _ more _ kind w.if-kind-ne-UNOWNED.true (w.lost-is ∙ rw w.one_more.ensures refl)
      | then-kind-ne-UNOWNED+else-place-lt-KINDS w ↦ walked_past _ _ _ _ _ more _ kind w.if-kind-ne-UNOWNED.true (omega arith) w.lost-is
      | else-kind-ne-UNOWNED w ↦ walked_skip _ _ _ _ _ more _ kind w.if-kind-ne-UNOWNED.false w.lost-is
    ]

pub one_more-requires : goal.one_more-requires
one_more-requires c = let at = c.loop-i in
    let place = c.lost_kind-kind.result - first_kind in
    omega (arith, lost_room _ _ _ (c.args.start + at.i) first_kind _ at.lost place at.invariant.1, c.requires.counts place)

pub loop-i-preserved : goal.loop-i-preserved
loop-i-preserved c = let inv = c.loop-i.invariant in
    let walked = step (goal.at.loop-i-preserved c).Joined-kind-ne-UNOWNED in
    (walked.long ∙ inv.0, walked.left ∙ inv.1)

pub returns : goal.returns
returns c = sym (after_done _ _ _ first_kind _ c.loop-i-test.false) ∙ c.loop-i.invariant.1
