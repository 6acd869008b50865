use Rattle.std.proofs.Common.{◌≡◌, Bool, true, false, ◌&&◌, rules}
use mathlib.Core.Bool.{and-true, and-false}
use Rattle.checkpoint.specs.Map.{belongs_to}
use Rattle.checkpoint.proofs.chain.belongs_to.Goals as goal

sum_last : (k x e v : Bool) → (k && x && e && v) ≡ (v && k && x && e)
sum_last k x e true = and-true _
sum_last k x e false = and-false _

pub returns-then-map_count-block : goal.returns-then-map_count-block
unfolding belongs_to
returns-then-map_count-block c = rw (← sum_last) (search rules)

pub returns-else-map_count-block : goal.returns-else-map_count-block
unfolding belongs_to
returns-else-map_count-block c = rw (← sum_last) (search rules)
