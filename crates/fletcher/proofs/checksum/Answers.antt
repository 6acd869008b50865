use native.Mathlib.Omega.{arith}
use mathlib.Core.List.{List}
use mathlib.Core.Path.{ap, sym, ◌∙◌}
use lib.ListN.{length, drop_of_length-le}
use Prim.Native.Nat.{ℕ, ◌≤◌}
use Rattle.fletcher.specs.Fletcher.{checksum, fletcher}
use Rattle.fletcher.proofs.Laws.{added_seal, part_end}
use Rattle.fletcher.proofs.checksum.Goals as goal

pub returns-then-object-lt8 : goal.returns-then-object-lt8
unfolding checksum fletcher
returns-then-object-lt8 c = let b = c.args.object.now in
    let h : length b ≤ 8 = omega arith in
    c.seal.ensures ∙ ap (λ (l : List ℕ). fletcher l 0 0) (sym (drop_of_length-le b h))

pub returns : goal.returns
unfolding checksum
returns c = c.seal-2.ensures ∙ added_seal _ _ _ (rw part_end at c.add.ensures)
