use Rattle.std.proofs.Common.{◌≡◌, refl, sym, ◌∙◌, Bool, true, false, ◌&&◌, rules}
use mathlib.Core.Bool.{and_assoc, and_comm}
use Rattle.checkpoint.specs.Superblock.{sound}
use Rattle.checkpoint.proofs.choice.wins.Goals as goal

sum_last : (s a h v : Bool) → (s && a && h && v) ≡ (s && v && a && h)
sum_last false a h v = refl
sum_last true a h v = and_comm (a && h) v ∙ sym (and_assoc v a h)

pub returns-then-is_ahead : goal.returns-then-is_ahead
unfolding sound
returns-then-is_ahead c = rw (← sum_last) (search rules)

pub returns-else-is_ahead : goal.returns-else-is_ahead
unfolding sound
returns-else-is_ahead c = rw (← sum_last) (search rules)
