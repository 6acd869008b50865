-- Laws of claims that overlap nothing.
use Rattle.std.specs.Prelude.{Ok, Result, Some}
use mathlib.Core.Path.{◌≡◌, refl, ap, ◌∙◌}
use mathlib.Core.Bool.{Bool, true, false}
use mathlib.Core.List.{List}
use Prim.Native.Nat.{ℕ, zero, suc, ◌+◌, ◌-◌, ◌%◌, ◌<◌, ◌≤◌}
use native.Mathlib.Omega.{arith}
use Rattle.blocks.specs.Reads.{Reads, run, no_blocks, given, ◌>>=◌}
use Rattle.blocks.specs.clauses.Answers.{Always, outcome_by}
use Rattle.blocks.specs.declared.Container.{Container}
use Rattle.blocks.specs.declared.Refusal.{Refusal}
use Rattle.blocks.proofs.Laws.{then_given, is_given, and_left, and_right}
use Rattle.nodes.specs.ObjectMap.{is_deleted}
use Rattle.nodes.specs.clauses.Answers.{part_in, entry_in}
use Rattle.nodes.specs.declared.EntryPlace.{EntryPlace}
use Rattle.nodes.specs.declared.Part.{Part}
use Rattle.block_map.specs.BlockMap.{Marked, update, owned_by}
use Rattle.block_map.specs.clauses.Maps.{Kept, Unlogged}
use Rattle.block_map.proofs.Laws.{update_other, kept_same, kept_then, kept_update, was_made}
use Rattle.report.specs.declared.OverlapLog.{OverlapLog}
use Rattle.claims.specs.Claims.{volume_superblock, claim_block, claim_from, mapped_address}
use Rattle.claims.specs.clauses.Answers.{owned}
use Rattle.claims.specs.clauses.Unlogged.{takes, taken_from, owned_from, unlogged_claim, unlogged_mapped, unlogged_mapping}
use Rattle.claims.proofs.Laws.{taken}

-- a block further on is held as before
taken_after : (kind : ℕ) (g : ℕ → ℕ) (map : List ℕ) (left a b : ℕ) → a < b → taken_from kind (update g a map) left b ≡ taken_from kind map left b
taken_after kind g map zero a b h = refl
taken_after kind g map (suc left) a b h = rw (update_other g a b map (omega arith), taken_after kind g map left a (b + 1) (omega arith)) refl

-- where each block is taken, they are all the kind's, and the log is as it was
pub all_taken : (f : ℕ → List ℕ) (kind : ℕ) (log : OverlapLog) (left a : ℕ) (map : List ℕ) → taken_from kind map left a ≡ true
    → run f (claim_from kind left a (owned map log)) ≡ given (owned (owned_from kind map left a) log)
unfolding run claim_from owned_from
all_taken f kind log zero a map h = refl
all_taken f kind log (suc left) a map h =
    let rest : Bool = taken_from kind map left (a + 1) in
    then_given f (claim_block kind a (owned map log)) (claim_from kind left (a + 1)) _ (taken kind a map log (and_left (takes kind map a) rest h) f)
    ∙ all_taken f kind log left (a + 1) (update (owned_by kind) a map) (taken_after kind (owned_by kind) map left a (a + 1) (omega arith) ∙ and_right (takes kind map a) rest h)

-- the loop, by what is left
module _ (kind end a : ℕ) where
  pub owned_done : (map : List ℕ) → end ≤ a → owned_from kind map (end - a) a ≡ map
  unfolding owned_from
  owned_done map h = let none : end - a ≡ 0 = omega arith in rw none refl

  pub owned_more : a < end → (map after : List ℕ) → after ≡ update (owned_by kind) a map → owned_from kind map (end - a) a ≡ owned_from kind after (end - (a + 1)) (a + 1)
  unfolding owned_from
  owned_more h map after q = let one : end - a ≡ suc (end - (a + 1)) = omega arith in rw (one, q) refl

-- bytes past the block count stay as they were, where no block is past it
pub owned_kept : (count kind end : ℕ) → end ≤ count → (left a : ℕ) (map : List ℕ) → left ≡ end - a → Kept count map (owned_from kind map left a)
unfolding owned_from
owned_kept count kind end h zero a map e = kept_same count map
owned_kept count kind end h (suc left) a map e =
    kept_then count _ _ _ (kept_update count (owned_by kind) a map (omega arith)) (owned_kept count kind end h left (a + 1) (update (owned_by kind) a map) (omega arith))

-- a claim without the log

-- after a pass of tests alone
pub made_then : {T A : Type 0} (view : T → A) {r : Result T Refusal} (p : Reads A) (k : A → Marked OverlapLog → Reads (Marked OverlapLog)) → Always (outcome_by view r) p → (t : T) → r ≡ Ok t
    → {f : ℕ → List ℕ} {count : ℕ} {made : Bool} {before after : List ℕ} → Unlogged f count made before after (k (view t)) → Unlogged f count made before after (λ s. p >>= λ a. k a s)
made_then view {r = r} p k e t was {f = f} h = record { made = λ q log. then_given f p _ _ (is_given view r f p (e f) t was) ∙ h.made q log; left = h.left; kept = h.kept }

-- of the blocks from start up to end, where all are taken
pub all_made : (count kind start end : ℕ) (map after : List ℕ) → end ≤ count → kind < 16 → taken_from kind map (end - start) start ≡ true → after ≡ owned_from (kind % 16) map (end - start) start
    → (f : ℕ → List ℕ) → Unlogged f count true map after (claim_from kind (end - start) start)
all_made count kind start end map after h k t o f =
    rw small (was_made (λ log. all_taken f kind log (end - start) start map t) (owned_kept count kind end h (end - start) start map refl))
  where
    small : after ≡ owned_from kind map (end - start) start
    small = o ∙ ap (λ x. owned_from x map (end - start) start) (omega arith)

-- whether a mapping's claim is made without the log, once its address was read: a deleted one's always is
module _ (c : Container) (b : List ℕ) (place : EntryPlace) (map : List ℕ) (p : Part) (at : place.value ≡ Some p) (a : ℕ) (q : run no_blocks (mapped_address (part_in b place.key) (part_in b p)) ≡ given a) where
  pub deleted_alone : is_deleted (part_in b p) ≡ true → true ≡ unlogged_mapping c (entry_in b place) map
  unfolding unlogged_mapped
  deleted_alone t = rw at (rw q (rw t refl))

  pub address_there : is_deleted (part_in b p) ≡ false → unlogged_claim c volume_superblock a 1 map ≡ unlogged_mapping c (entry_in b place) map
  unfolding unlogged_mapped
  address_there t = rw at (rw q (rw t refl))
