-- A test of the code beside a test of the definition.
use Rattle.std.proofs.Common.{◌≡◌, sym, ap, ◌∙◌, Bool, true, false, Result, Ok, Err, List, ℕ}
use Rattle.std.specs.Result.{IsErrAnd}
use Rattle.blocks.specs.Reads.{Reads, Outcome, run, need, ◌>>=◌}
use Rattle.blocks.specs.clauses.Answers.{outcome_by}
use Rattle.blocks.specs.declared.Refusal.{Refusal}
use Rattle.blocks.proofs.Laws.{need_true, need_false}

module _ {A : Type 0} (f : ℕ → List ℕ) (b : Bool) (why : Refusal) (k : Unit {0} → Reads A) where
  pub need_ok : (o : Outcome A) → b ≡ true → o ≡ run f (k tt) → o ≡ run f (need b why >>= k)
  need_ok o h e = e ∙ sym (need_true f b why k h)

  pub need_err : {T : Type 0} (view : T → A) (s : Result T Refusal) → s ≡ Err why → b ≡ false → outcome_by view s ≡ run f (need b why >>= k)
  need_err view s is h = ap (outcome_by view) is ∙ sym (need_false f b why k h)

-- what a `?` hands on is the refusal that came
pub handed_on : {T : Type 0} (s : Result T Refusal) (e why : Refusal) → IsErrAnd s (λ y. y ≡ e) → e ≡ why → s ≡ Err why
handed_on (Err y) e why same is = ap Err (same ∙ is)
handed_on (Ok t) e why same is = absurd same
