-- Laws of the volumes' superblocks: what `ok_or` tells of an option, one that was read, and the places that are left.
use mathlib.Core.Path.{◌≡◌, refl, ◌∙◌}
use mathlib.Core.Bool.{true}
use mathlib.Core.List.{List}
use Rattle.std.specs.Prelude.{Option, Some, None, Ok, Err, ok_or}
use Prim.Native.Nat.{ℕ, suc, ◌+◌, ◌-◌, ◌<◌}
use native.Mathlib.Omega.{arith}
use lib.Dec.{eqb}
use borrow.Author.Tests.{eq-eqb}
use Rattle.fields.specs.Fields.{num}
use Rattle.fields.specs.Header.{kind_of, volume_kind}
use Rattle.blocks.specs.Reads.{given, run, ◌>>=◌}
use Rattle.blocks.specs.Blocks.{read_object}
use Rattle.blocks.proofs.Laws.{then_given, need_true, need_held, both, object_given}
use Rattle.blocks.specs.declared.Address.{Address}
use Rattle.blocks.specs.declared.Container.{Container}
use Rattle.blocks.specs.declared.Refusal.{Refusal}
use Rattle.nodes.specs.declared.Description.{Description}
use Rattle.checkpoint.specs.Superblock.{volume_id}
use Rattle.volumes.specs.Volumes.{volume_magic, is_volume, read_volume, volume_at}
use Rattle.volumes.specs.clauses.Answers.{there_from}

module _ {A : Type 0} (e : Refusal) where
  pub or_none : (o : Option A) {x : Refusal} → ok_or o e ≡ Err x → (o ≡ None) × (x ≡ e)
  or_none None q = (refl, cc)
  or_none (Some a) q = let z : ◌≡◌ {A = ℕ} 0 1 = cc in absurd (omega arith)

  pub or_some : (o : Option A) {a : A} → ok_or o e ≡ Ok a → o ≡ Some a
  or_some None q = let z : ◌≡◌ {A = ℕ} 0 1 = cc in absurd (omega arith)
  or_some (Some b) q = cc

-- what makes a volume's superblock
pub volume_of_kind : (b : List ℕ) (k x : ℕ) → k ≡ kind_of b → k ≡ volume_kind → x ≡ num 4 b 32 → eqb x volume_magic ≡ is_volume b
unfolding is_volume
volume_of_kind b k x kind e q = rw (← kind, ← q, eq-eqb k volume_kind e) refl

module _ (f : ℕ → List ℕ) (c : Container) (a : Address) where
  pub volume_read : (n : List ℕ) → run f (read_object c a) ≡ given n → is_volume n ≡ true → run f (read_volume c a) ≡ given n
  unfolding run read_volume
  volume_read n e q = then_given f _ _ n e ∙ need_true f _ _ _ q

  -- one that was read is its address's block
  pub volume_given : (v : List ℕ) → run f (read_volume c a) ≡ given v → v ≡ f a.0
  unfolding run read_volume
  volume_given v e =
      let object = both f (read_object c a) _ v e in
      let same : given object.first ≡ given v = (need_held f _ _ _ v object.rest).1 in
      let here = object_given f c a object.first object.came in cc

-- one place of those that are left
pub there_next : (c : Container) (d : Description) (b sb : List ℕ) (n i : ℕ) → i < n → volume_at c d b (volume_id sb i) >>= (λ _. there_from c d b sb (n - (i + 1)) (i + 1)) ≡ there_from c d b sb (n - i) i
unfolding there_from
there_next c d b sb n i h = let less : n - i ≡ suc (n - (i + 1)) = omega arith in rw less refl
