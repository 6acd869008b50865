-- Laws of the children of a node.
use mathlib.Core.Path.{◌≡◌, refl}
use mathlib.Core.List.{List}
use mathlib.Core.Logic.{◌≢◌}
use Prim.Native.Nat.{ℕ, zero, suc, ◌+◌, ◌<◌}
use native.Mathlib.Omega.{arith}
use borrow.Author.Tests.{eq-eqb, ne_eqb, eqb-true}
use Rattle.std.specs.Prelude.{Result, Ok, Err}
use Rattle.std.specs.Result.{result_unwrap_or}
use Rattle.blocks.specs.Reads.{Reads, done, given, refused, run, ◌>>=◌}
use Rattle.blocks.specs.clauses.Answers.{outcome}
use Rattle.blocks.proofs.Laws.{need_true, need_false, need_held, both}
use Rattle.blocks.specs.declared.Refusal.{Refusal}
use Rattle.blocks.specs.declared.Refusal.TheVariants.{WrongLevel}
use Rattle.nodes.specs.Node.{level_of, entry}
use Rattle.nodes.specs.Scan.{look_at, pointer_past, one_below}
use Rattle.nodes.specs.declared.Description.{Description}
use Rattle.trees.specs.clauses.Visits.{child_below}
use Rattle.trees.specs.clauses.Walks.{number_in}

-- a pointer that was read before
pub number_or : (r : Result ℕ Refusal) → result_unwrap_or r 0 ≡ number_in (outcome r)
number_or (Ok n) = refl
number_or (Err x) = refl

-- an entry past the last isn't looked at
module _ (f : ℕ → List ℕ) (d : Description) (b : List ℕ) (i : ℕ) where
  pub look_none : (left : ℕ) → left ≡ 0 → run f (look_at d b left i) ≡ given tt
  unfolding run look_at
  look_none left e = rw e refl

  pub look_some : (left : ℕ) → left ≢ 0 → run f (look_at d b left i) ≡ run f (entry d b i >>= λ _. done tt)
  unfolding look_at
  look_some zero h = absurd (h refl)
  look_some (suc left) h = refl

module _ (f : ℕ → List ℕ) (level : ℕ) (n : List ℕ) (l : ℕ) (is : l ≡ level_of n) where
  pub below_one : l + 1 ≡ level → run f (one_below level n) ≡ given n
  unfolding run one_below
  below_one e = need_true f _ _ _ (eq-eqb (level_of n + 1) level (rw (← is) e))

  pub below_other : (l + 1 ≡ level → ⊥) → run f (one_below level n) ≡ refused WrongLevel
  unfolding one_below
  below_other e = need_false f _ _ _ (ne_eqb (level_of n + 1) level (λ q. e (rw is q)))

-- a child that was read is one level below its parent, which is therefore not at level 0
pub child_level : (f : ℕ → List ℕ) (d : Description) (child : ℕ → Reads (List ℕ)) (level : ℕ) (b : List ℕ) (left i : ℕ) (m : List ℕ) → run f (child_below d child level b left i) ≡ given m → 0 < level
unfolding child_below one_below
child_level f d child level b left i m e =
    let read = both f (pointer_past d b left i) _ m e in
    let there = both f (child read.first) _ m read.rest in
    let held : level_of there.first + 1 ≡ level = eqb-true _ _ (need_held f _ _ _ m there.rest).0 in omega arith
