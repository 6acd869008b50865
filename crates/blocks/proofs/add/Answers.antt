use mathlib.Core.Path.{◌≡◌, sym, ap, ◌∙◌}
use Prim.Native.Nat.{ℕ, ◌+◌, ◌^◌, ◌<◌}
use mathlib.Core.List.{List}
use native.Mathlib.Omega.{arith}
use Rattle.std.specs.Prelude.{Option, Some, None}
use Rattle.std.specs.Option.{SomeIff, ok_or}
use Rattle.blocks.specs.Reads.{given, run}
use Rattle.blocks.specs.Blocks.{sum}
use Rattle.blocks.specs.declared.Refusal.TheVariants.{Overflow}
use Rattle.blocks.specs.clauses.Answers.{outcome}
use Rattle.blocks.proofs.Laws.{sum_fits, sum_passes}
use Rattle.blocks.proofs.add.Goals as goal

checked : (f : ℕ → List ℕ) (a b : ℕ) (o : Option ℕ) → SomeIff o (a + b < 2 ^ 64) (a + b) → outcome (ok_or o Overflow) ≡ run f (sum a b)
checked f a b (Some n) h = ap given h.1 ∙ sym (sum_fits f a b h.0)
checked f a b None h = sym (sum_passes f a b (omega (arith, h)))

pub returns : goal.returns
returns c = λ f. ap outcome c.ok_or.ensures.value ∙ checked f _ _ _ c.checked_add.ensures
