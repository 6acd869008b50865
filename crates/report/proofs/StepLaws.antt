-- Laws of steps: what follows a step, what goes before one, and loops along a cursor.
use Rattle.std.proofs.Common.{Bool, true, false, ◌≡◌, ℕ, ◌+◌, ◌-◌, ◌^◌, ◌<◌, ◌≤◌, List, sym, refl, ap, ◌∙◌, arith}
use Rattle.std.specs.Prelude.{Result, Ok, Err, IsErrAnd}
use Rattle.blocks.specs.Reads.{Reads, Outcome, done, given, refused, run, need, ◌>>=◌}
use Rattle.blocks.specs.declared.Refusal.{Refusal}
use Rattle.blocks.specs.clauses.Answers.{outcome_by}
use Rattle.blocks.proofs.Laws.{then_given, then_refused, is_given, at_err, need_true, need_false}
use Rattle.block_map.specs.BlockMap.{Marked}
use Rattle.block_map.specs.clauses.Maps.{Kept}
use Rattle.block_map.proofs.Laws.{kept_same, kept_then}
use Rattle.report.specs.clauses.Steps.{SteppedBy, Stepped, MovesUnlogged}
use Rattle.report.specs.declared.Cursor.{Cursor}

-- the outcome of a refusal that a `?` passes on, whatever it passes on for
pub passed_on : {T A : Type 0} (view : T → A) (x : Refusal) (s : Result T Refusal) → IsErrAnd s (λ y. y ≡ x) → outcome_by view s ≡ refused x
passed_on view x (Err y) e = ap refused e
passed_on view x (Ok t) e = absurd e

module _ {T F : Type 0} {view : T → F} {f : ℕ → List ℕ} {count : ℕ} {r : Result T Refusal} {before after : List ℕ} {p : Reads (Marked F)} (h : SteppedBy view f count r before after p) where
  -- what the definition gives, where the step was done or refused
  pub stepped_ok : (t : T) → r ≡ Ok t → run f p ≡ given (record { map = after; figures = view t })
  stepped_ok t e = sym h.goes ∙ ap (outcome_by (λ t. record { map = after; figures = view t })) e

  pub stepped_err : (x : Refusal) → r ≡ Err x → run f p ≡ refused x
  stepped_err x e = sym h.goes ∙ ap (outcome_by (λ t. record { map = after; figures = view t })) e

  pub stepped_run : {q : Reads (Marked F)} → run f p ≡ run f q → SteppedBy view f count r before after q
  stepped_run e = record { goes = h.goes ∙ e; kept = h.kept }

  pub stepped_is : {q : Reads (Marked F)} → p ≡ q → SteppedBy view f count r before after q
  stepped_is e = stepped_run (ap (run f) e)

  -- the same step, answered as another value, or by its refusal alone
  pub step_as : {U : Type 0} (seen : U → F) (t : T) → r ≡ Ok t → (u : U) → seen u ≡ view t → SteppedBy seen f count (Ok u) before after p
  step_as seen t e u same = record { goes = ap (λ (x : F). given (record { map = after; figures = x })) same ∙ sym (stepped_ok t e); kept = h.kept }

  pub step_refused : {U : Type 0} (seen : U → F) (x : Refusal) → r ≡ Err x → (s : Result U Refusal) → IsErrAnd s (λ y. y ≡ x) → SteppedBy seen f count s before after p
  step_refused seen x e s same = record { goes = passed_on _ x s same ∙ sym (stepped_err x e); kept = h.kept }

  -- a step, and then another; a refusal ends the whole, and `?` passes it on
  module _ {U G : Type 0} (seen : U → G) (g : Marked F → Reads (Marked G)) where
    pub step_then : {s : Result U Refusal} {last : List ℕ} (t : T) → r ≡ Ok t → SteppedBy seen f count s after last (g (record { map = after; figures = view t })) → SteppedBy seen f count s before last (p >>= g)
    step_then t e k = record { goes = k.goes ∙ sym (then_given f p g _ (stepped_ok t e)); kept = kept_then _ _ _ _ h.kept k.kept }

    pub step_stop : (x : Refusal) → r ≡ Err x → (s : Result U Refusal) → IsErrAnd s (λ y. y ≡ x) → SteppedBy seen f count s before after (p >>= g)
    step_stop x e s same = record { goes = passed_on _ x s same ∙ sym (then_refused f p g x (stepped_err x e)); kept = h.kept }

  -- a step after what leaves the map
  pub given_then : {A : Type 0} (q : Reads A) (k : A → Reads (Marked F)) (a : A) → run f q ≡ given a → run f p ≡ run f (k a) → SteppedBy view f count r before after (q >>= k)
  given_then q k a e same = stepped_run (same ∙ sym (then_given f q k a e))

-- a step that left the map
module _ {T F : Type 0} (view : T → F) {f : ℕ → List ℕ} {p : Reads (Marked F)} (count : ℕ) (map : List ℕ) where
  pub stays_ok : (t : T) → run f p ≡ given (record { map = map; figures = view t }) → SteppedBy view f count (Ok t) map map p
  stays_ok t e = record { goes = sym e; kept = kept_same count map }

  pub stays_err : (x : Refusal) → run f p ≡ refused x → (s : Result T Refusal) → IsErrAnd s (λ y. y ≡ x) → SteppedBy view f count s map map p
  stays_err x e s same = record { goes = passed_on _ x s same ∙ sym e; kept = kept_same count map }

-- a loop along a cursor, at its head: what is left from here gives what the whole gives
pub record Left {F : Type 0} (f : ℕ → List ℕ) (count : ℕ) (start at : Cursor) (before now : Marked F) (rest : Cursor → Marked F → Reads (Marked F)) : Type 0 where
  pub goes : run f (rest at now) ≡ run f (rest start before)
  pub inside : at.next + at.left ≤ start.next + start.left
  pub kept : Kept count before.map now.map

pub left_first : {F : Type 0} (f : ℕ → List ℕ) (count : ℕ) (at : Cursor) (s : Marked F) (rest : Cursor → Marked F → Reads (Marked F)) → Left f count at at s s rest
left_first f count at s rest = record { goes = refl; inside = omega arith; kept = kept_same count s.map }

module _ {F : Type 0} {f : ℕ → List ℕ} {count : ℕ} {start at : Cursor} {before now : Marked F} {rest : Cursor → Marked F → Reads (Marked F)} (h : Left f count start at before now rest) where
  -- one more step, to a cursor that isn't beyond this one's end; or its refusal, which `?` passes on
  module _ {T : Type 0} {view : T → F} {r : Result T Refusal} {after : List ℕ} {p : Reads (Marked F)} (k : SteppedBy view f count r now.map after p) where
    pub left_on : (t : T) → r ≡ Ok t → (to : Cursor) → run f (rest at now) ≡ run f (p >>= rest to) → to.next + to.left ≤ at.next + at.left → Left f count start to before (record { map = after; figures = view t }) rest
    left_on t e to same further = record { goes = sym (then_given f p (rest to) _ (stepped_ok k t e)) ∙ (sym same ∙ h.goes); inside = omega (arith, h.inside); kept = kept_then _ _ _ _ h.kept k.kept }

    pub left_err : {U : Type 0} (seen : U → F) (x : Refusal) → r ≡ Err x → (g : Marked F → Reads (Marked F)) → run f (rest at now) ≡ run f (p >>= g) → (s : Result U Refusal) → IsErrAnd s (λ y. y ≡ x) → SteppedBy seen f count s before.map after (rest start before)
    left_err seen x e g same s passed = record { goes = passed_on _ x s passed ∙ (sym (then_refused f p g x (stepped_err k x e)) ∙ (sym same ∙ h.goes)); kept = kept_then _ _ _ _ h.kept k.kept }

  pub left_done : rest at now ≡ done now → Stepped f count (Ok now.figures) before.map now.map (rest start before)
  unfolding run
  left_done e = record { goes = sym (ap (run f) e) ∙ h.goes; kept = h.kept }

  -- refused before the next step
  pub left_stopped : {U : Type 0} (seen : U → F) (x : Refusal) → run f (rest at now) ≡ refused x → (s : Result U Refusal) → IsErrAnd s (λ y. y ≡ x) → SteppedBy seen f count s before.map now.map (rest start before)
  left_stopped seen x e s passed = record { goes = passed_on _ x s passed ∙ (sym e ∙ h.goes); kept = h.kept }

  -- past steps that logged nothing
  pub left_unlogged : (to : Cursor) (after : List ℕ) → MovesUnlogged f count at to now.map after rest → Left f count start to before (record { map = after; figures = now.figures }) rest
  left_unlogged to after k = record { goes = k.goes now.figures ∙ h.goes; inside = omega (arith, k.further.1, h.inside); kept = kept_then _ _ _ _ h.kept k.kept }

-- a step after others that logged nothing
pub unlogged_stepped : {T F : Type 0} {view : T → F} {f : ℕ → List ℕ} {count : ℕ} {from to : Cursor} {before between after : List ℕ} {rest : Cursor → Marked F → Reads (Marked F)} {r : Result T Refusal} {found : F} → MovesUnlogged f count from to before between rest
    → SteppedBy view f count r between after (rest to (record { map = between; figures = found })) → SteppedBy view f count r before after (rest from (record { map = before; figures = found }))
unlogged_stepped {found = found} h k = record { goes = k.goes ∙ h.goes found; kept = kept_then _ _ _ _ h.kept k.kept }

-- steps that logged nothing, at their head, and past one more of them
module _ {F : Type 0} (f : ℕ → List ℕ) (count : ℕ) (from : Cursor) (before : List ℕ) (rest : Cursor → Marked F → Reads (Marked F)) where
  pub unlogged_first : MovesUnlogged f count from from before before rest
  unlogged_first = record { goes = λ figures. refl; further = (omega arith, omega arith); kept = kept_same count before }

  pub unlogged_more : (at to : Cursor) (map after : List ℕ) → MovesUnlogged f count from at before map rest → 0 < at.left → to ≡ record { next = at.next + 1; left = at.left - 1 }
      → ((figures : F) → run f (rest at (record { map = map; figures = figures })) ≡ run f (rest (record { next = at.next + 1; left = at.left - 1 }) (record { map = after; figures = figures })))
      → Kept count map after → MovesUnlogged f count from to before after rest
  unlogged_more at to map after h some is e k = rw is (record { goes = λ figures. sym (e figures) ∙ h.goes figures; further = (omega (arith, h.further.0), omega (arith, h.further.1)); kept = kept_then _ _ _ _ h.kept k })

-- a pass that leaves the map, and then a step; a refusal ends the whole, and `?` passes it on
module _ {T A F U : Type 0} (view : T → A) {seen : U → F} {f : ℕ → List ℕ} {count : ℕ} {r : Result T Refusal} {s : Result U Refusal} (q : Reads A) (k : A → Reads (Marked F)) (e : outcome_by view r ≡ run f q) where
  pub read_then : {before after : List ℕ} (t : T) → r ≡ Ok t → SteppedBy seen f count s before after (k (view t)) → SteppedBy seen f count s before after (q >>= k)
  read_then t was h = stepped_run h (sym (then_given f q k (view t) (is_given view r f q e t was)))

  pub read_stop : {map : List ℕ} (x : Refusal) → r ≡ Err x → IsErrAnd s (λ y. y ≡ x) → SteppedBy seen f count s map map (q >>= k)
  read_stop x was same = record { goes = at_err view r f q e _ k x was s same; kept = kept_same count _ }

-- a test, and then a step
module _ {U F : Type 0} {seen : U → F} {f : ℕ → List ℕ} {count : ℕ} (b : Bool) (x : Refusal) (k : Unit {0} → Reads (Marked F)) where
  pub need_then : {s : Result U Refusal} {before after : List ℕ} → b ≡ true → SteppedBy seen f count s before after (k tt) → SteppedBy seen f count s before after (need b x >>= k)
  need_then e h = stepped_run h (sym (need_true f b x k e))

  pub need_stop : {map : List ℕ} → b ≡ false → SteppedBy seen f count (Err x) map map (need b x >>= k)
  need_stop e = record { goes = sym (need_false f b x k e); kept = kept_same count _ }
