-- Laws of the audit's steps: the use of a block, and a problem logged.
use Rattle.std.proofs.Common.{Bool, true, false, List, ◌≡◌, refl, ℕ, suc, ◌+◌, ◌-◌, ◌≤◌, ◌<◌, arith, Result, ltb-true}
use Rattle.blocks.specs.Reads.{Reads, done, given, run, ◌>>=◌}
use Rattle.blocks.specs.Blocks.{read_raw}
use Rattle.blocks.specs.declared.Address.{Address}
use Rattle.blocks.specs.declared.Container.{Container}
use Rattle.blocks.specs.declared.Refusal.{Refusal}
use Rattle.blocks.proofs.Laws.{need_held}
use Rattle.block_map.specs.BlockMap.{Marked, update, used}
use Rattle.block_map.proofs.Laws.{kept_then, kept_update}
use Rattle.report.specs.Report.{add_problem}
use Rattle.report.specs.clauses.Steps.{SteppedBy, Stepped}
use Rattle.report.proofs.StepLaws.{given_then}
use Rattle.audit.specs.Audit.{with_problems, unless, enter}
use Rattle.audit.specs.clauses.Answers.{audited}
use Rattle.audit.specs.declared.Audit.{Audit}

-- a step after the use of a block
pub used_then : {T F : Type 0} {view : T → F} {f : ℕ → List ℕ} {count : ℕ} {r : Result T Refusal} {before after : List ℕ} {p : Reads (Marked F)} → SteppedBy view f count r before after p
    → (a : ℕ) (map : List ℕ) → before ≡ update used a map → a < count → SteppedBy view f count r map after p
used_then {count = count} h a map e below = record { goes = h.goes; kept = kept_then _ _ _ _ (kept_update count used a map below) (rw e at h.kept) }

-- a block that was read is one of the container's
pub raw_below : (f : ℕ → List ℕ) (c : Container) (a : Address) (b : List ℕ) → run f (read_raw c a) ≡ given b → a.0 < c.count
unfolding read_raw
raw_below f c a b e = ltb-true _ _ (need_held f _ _ _ b e).0

-- what a loop at turn i of n has left
module _ (n i : ℕ) where
  pub none_left : n ≤ i → n - i ≡ 0
  none_left h = omega arith

  pub one_less : i < n → n - i ≡ suc (n - (i + 1))
  one_less h = omega arith

-- a step of the audit after the use of a block
pub entered : {f : ℕ → List ℕ} {count : ℕ} {r : Result Audit Refusal} {between after : List ℕ} {audit : Audit} {a : ℕ} {map : List ℕ} (rest : Marked Audit → Reads (Marked Audit)) → Stepped f count r between after (rest (audited between audit))
    → between ≡ update used a map → a < count → Stepped f count r map after (rest (enter a (audited map audit)))
unfolding enter
entered rest h e below = used_then (rw e at h) _ _ refl below

-- what a block that is entered as used lists, once it is read whole
module _ {f : ℕ → List ℕ} {count : ℕ} {r : Result Audit Refusal} {between after : List ℕ} (a : Address) (map : List ℕ) (audit : Audit) (below : a.0 < count) (e : between ≡ update used a.0 map) where
  pub entered_then : {L : Type 0} (q : Reads L) (l : L) (rest : L → Marked Audit → Reads (Marked Audit)) → run f q ≡ given l → Stepped f count r between after (rest l (audited between audit))
      → Stepped f count r map after (q >>= λ l. rest l (enter a.0 (audited map audit)))
  entered_then q l rest g h = given_then (entered (rest l) h e below) q _ l g refl

-- a problem, by the test that it waits on
module _ (ok : Bool) (kind a : ℕ) (s : Marked Audit) where
  pub unless_holds : ok ≡ true → done s ≡ unless ok kind a s
  unfolding unless
  unless_holds e = rw e refl

  pub unless_fails : ok ≡ false → add_problem (record { kind = kind; block = a }) s.figures.problems >>= (λ l. done (record { map = s.map; figures = with_problems l s.figures })) ≡ unless ok kind a s
  unfolding unless
  unless_fails e = rw e refl
