use mathlib.Core.Path.{refl, ap, ◌∙◌}
use Rattle.writers.proofs.Laws.{wrote_part, part_length, length_zeros}
use lib.ListN.{replicate}
use Prim.Native.Nat.{ℕ}
use native.Mathlib.Omega.{arith}
use Rattle.writers.proofs.put_zeros.Goals as goal

pub returns : goal.returns
returns c = let a = c.args in
    let long = length_zeros a.count in
    let zeros = c.fill.ensures.after (λ y e. e) ∙ ap (λ (n : ℕ). replicate n 0) (part_length _ a.at a.count c.requires) in
    (wrote_part _ _ _ (omega (arith, long)) zeros (omega (arith, long)) (omega (arith, long)), refl)
