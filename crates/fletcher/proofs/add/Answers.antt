use native.Mathlib.Omega.{arith}
use mathlib.Core.Path.{refl, ap, ◌∙◌}
use mathlib.Core.List.{[]}
use lib.ListN.{length, length-append}
use Rattle.std.proofs.lemmas.List.{nil_from_length}
use Rattle.std.specs.Slice.Iter.{chunks_rest}
use Rattle.fletcher.proofs.Laws.{added_then, added_block}
use Rattle.fletcher.proofs.add.Goals as goal

pub loop-block-preserved : goal.loop-block-preserved
loop-block-preserved c =
    let i = c.loop-block.invariant in
    let s = c.in-Some.ensures.steps in
    let block = c.in-Some.block.now in
    let sum = ap length s.1.0 ∙ length-append block (chunks_rest c.next.new.self) in (
      s.0 ∙ i.0,
      omega (arith, sum, s.1.1, i.0, i.1),
      c.add_block-sums.ensures.fits,
      λ r left. i.3 r (added_block _ block _ _ _ _ r s.1.0 (omega (arith, s.1.1, i.0, i.1)) c.add_block-sums.ensures left),
    )

pub returns : goal.returns
returns c =
    let i = c.loop-block.invariant in
    let none = nil_from_length _ c.in-None.ensures.steps.1.0 in
    added_then [] _ _ _ _ refl c.reduced-sums.ensures (i.3 _ (rw none c.add_rest.ensures))
