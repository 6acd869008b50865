use Rattle.std.proofs.Common.{◌≡◌, ◌+◌, ◌-◌, sym, ap, ◌∙◌, arith}
use Rattle.blocks.specs.Reads.{run}
use Rattle.report.proofs.StepLaws.{left_on, left_err, left_done}
use Rattle.audit.proofs.BitmapLaws.{bits_done, set_next, clear_next}
use Rattle.audit.proofs.bitmap.mark_rest.Invariants.{zeros_to}
use Rattle.audit.proofs.bitmap.mark_rest.Goals.{then-bit_at+in_ok-mark_set, else-bit_at}
use Rattle.audit.proofs.bitmap.mark_rest.Goals as goal

pub returns-in_err-mark_set : goal.returns-in_err-mark_set
returns-in_err-mark_set c = λ f. left_err (c.loop-bit.invariant.0 f) (c.mark_set.ensures f _) (λ x. x) _ c.in_err-mark_set.was _ (ap (run f) (set_next _ _ _ _ _ _ c.loop-bit-test.true (sym c.bit_at.ensures ∙ c.if-bit_at.true))) _ c.from_residual.ensures.1

pub loop-bit-preserved : goal.loop-bit-preserved
loop-bit-preserved c = elim c.if-bit_at.branch [
  | then-bit_at+in_ok-mark_set w ↦
      let same : zeros_to c.args.before c.args.from.next (c.loop-bit.bit + 1) (c.loop-bit.ones + 1) ≡ zeros_to c.args.before c.args.from.next c.loop-bit.bit c.loop-bit.ones = omega (arith, c.loop-bit.invariant.1, c.loop-bit.auto.bit) in
      rw (w.map-is, w.ones-is, same) (
        λ f. left_on (c.loop-bit.invariant.0 f) (w.mark_set.ensures f _) _ w.in_ok-mark_set.was _ (ap (run f) (set_next _ _ _ _ _ _ c.loop-bit-test.true (sym c.bit_at.ensures ∙ w.if-bit_at.true))) (omega arith),
        omega (arith, c.loop-bit.invariant.1, c.loop-bit.auto.bit),
      )
  | else-bit_at w ↦
      let more : zeros_to c.args.before c.args.from.next (c.loop-bit.bit + 1) c.loop-bit.ones ≡ zeros_to c.args.before c.args.from.next c.loop-bit.bit c.loop-bit.ones + 1 = omega (arith, c.loop-bit.invariant.1, c.loop-bit.auto.bit) in
      rw (w.map-is, w.ones-is, more) (
        λ f. let left = c.loop-bit.invariant.0 f in record {
          goes = sym (ap (run f) (clear_next _ _ _ _ _ _ c.loop-bit-test.true (sym c.bit_at.ensures ∙ w.if-bit_at.false))) ∙ left.goes;
          inside = omega (arith, left.inside);
          kept = left.kept;
        },
        omega (arith, c.loop-bit.invariant.1, c.loop-bit.auto.bit),
      )
]

pub returns : goal.returns
returns c =
    let all : c.args.before + (c.args.from.left - c.loop-bit.ones) ≡ zeros_to c.args.before c.args.from.next c.loop-bit.bit c.loop-bit.ones = omega arith in
    λ f. rw all (left_done (c.loop-bit.invariant.0 f) (bits_done _ _ _ _ _ _ c.loop-bit-test.false))
