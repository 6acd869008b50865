-- Laws of the volumes' claims: the places that are left, and all volumes, once their superblocks are there.
use mathlib.Core.Path.{◌≡◌, refl, sym, ap, ◌∙◌}
use mathlib.Core.Bool.{Bool, true, false}
use mathlib.Core.List.{List, [], ◌∷◌, ◌++◌}
use Prim.Native.Nat.{ℕ, zero, suc, ◌+◌, ◌-◌, ◌<◌}
use native.Mathlib.Omega.{arith}
use lib.Dec.{eqb}
use Rattle.fields.specs.Choice.{choose}
use Rattle.blocks.specs.Reads.{Reads, Outcome, done, given, refused, run, ◌>>=◌}
use Rattle.blocks.proofs.Laws.{both, bind_assoc, bind_done, run_bind, then_given, then_refused}
use Rattle.blocks.specs.declared.Container.{Container}
use Rattle.blocks.specs.declared.ObjectId.{ObjectId}
use Rattle.blocks.specs.declared.Refusal.{Refusal}
use Rattle.nodes.specs.declared.Description.{Description}
use Rattle.block_map.specs.BlockMap.{Marked}
use Rattle.report.specs.declared.OverlapLog.{OverlapLog}
use Rattle.checkpoint.specs.Superblock.{volume_places, volume_id}
use Rattle.volumes.specs.Volumes.{read_volume, address_for, volume_for, volume_at, volumes_from, claim_volume, claim_each, claim_volumes}
use Rattle.volumes.specs.clauses.Answers.{there_from, claim_again, claims_from}
use Rattle.volumes.proofs.VolumeLaws.{volume_given}

-- a pass with one of two sequels that come to the same
then_same : {A B : Type 0} (f : ℕ → List ℕ) (p : Reads A) (g h : A → Reads B) → ((a : A) → run f p ≡ given a → run f (g a) ≡ run f (h a)) → run f (p >>= g) ≡ run f (p >>= h)
then_same {A} f p g h same = go (run f p) refl
  where
    go : (o : Outcome A) → run f p ≡ o → run f (p >>= g) ≡ run f (p >>= h)
    go (given a) e = then_given f p g a e ∙ (same a e ∙ sym (then_given f p h a e))
    go (refused r) e = then_refused f p g r e ∙ sym (then_refused f p h r e)

-- one of two passes that come to the same, with a sequel
same_then : {A B : Type 0} (f : ℕ → List ℕ) (p q : Reads A) (g : A → Reads B) → run f p ≡ run f q → run f (p >>= g) ≡ run f (q >>= g)
same_then f p q g same = run_bind f p g ∙ rw same (sym (run_bind f q g))

-- where only what a pass gives is looked at, the pass was refused
told_refused : {A B : Type 0} (f : ℕ → List ℕ) (p : Reads A) (g : A → B) (r : Refusal) → run f (p >>= λ a. done (g a)) ≡ refused r → run f p ≡ refused r
unfolding run
told_refused {A} {B} f p g r e = go (run f p) refl
  where
    go : (o : Outcome A) → run f p ≡ o → run f p ≡ refused r
    go (given a) q =
        let never : given (g a) ≡ refused r = sym (then_given f p (λ a. done (g a)) a q) ∙ e in
        let z : ◌≡◌ {A = ℕ} 0 1 = cc in absurd (omega arith)
    go (refused x) q =
        let same : ◌≡◌ {A = Outcome B} (refused x) (refused r) = sym (then_refused f p (λ a. done (g a)) x q) ∙ e in
        let cause : x ≡ r = cc in rw (← cause) q

module _ (c : Container) where
  each_one : (v : List ℕ) (s : Marked OverlapLog) → claim_volume c v s ≡ claim_each c (v ∷ []) s
  unfolding claim_each
  each_one v s = sym (bind_done (claim_volume c v s))

  each_append : (vs ws : List (List ℕ)) (s : Marked OverlapLog) → claim_each c (vs ++ ws) s ≡ claim_each c vs s >>= claim_each c ws
  unfolding ◌>>=◌ claim_each
  each_append [] ws s = refl
  each_append (v ∷ vs) ws s = ap (λ (g : Marked OverlapLog → Reads (Marked OverlapLog)). claim_volume c v s >>= g) (λ i t. each_append vs ws t i) ∙ sym (bind_assoc (claim_volume c v s) (claim_each c vs) (claim_each c ws))

-- a volume that was read is claimed alike once it is looked up again
module _ (f : ℕ → List ℕ) (c : Container) (d : Description) (b : List ℕ) where
  place_again : (id : ObjectId) (vs : List (List ℕ)) → run f (volume_at c d b id) ≡ given vs → (s : Marked OverlapLog) → run f (claim_each c vs s) ≡ run f (claim_again f c d b id s)
  unfolding run volume_for volume_at claim_again claim_each
  place_again id vs e s = go (eqb id.0 0) e
    where
      go : (t : Bool) → run f (choose t (λ _. done []) (λ _. volume_for c d b id >>= λ v. done (v ∷ []))) ≡ given vs
          → run f (claim_each c vs s) ≡ run f (choose t (λ _. done s) (λ _. address_for c d b id >>= λ a. claim_volume c (f a.0) s))
      go true e = let same : [] ≡ vs = cc in rw (← same) refl
      go false e =
          let found = both f (volume_for c d b id) _ vs e in
          let at = both f (address_for c d b id) (read_volume c) found.first found.came in
          let here = volume_given f c at.first found.first at.rest in
          let alone : given (found.first ∷ []) ≡ given vs = found.rest in
          let same : f at.first.0 ∷ [] ≡ vs = cc in
          rw (← same) (sym (then_given f (address_for c d b id) _ at.first at.came ∙ ap (run f) (each_one c (f at.first.0) s)))

-- one place of those that are left
pub claims_next : (f : ℕ → List ℕ) (c : Container) (d : Description) (b sb : List ℕ) (n i : ℕ) (s : Marked OverlapLog) → i < n → claims_from f c d b sb (n - i) i s ≡ claim_again f c d b (volume_id sb i) s >>= claims_from f c d b sb (n - (i + 1)) (i + 1)
unfolding claims_from
claims_next f c d b sb n i s h = let less : n - i ≡ suc (n - (i + 1)) = omega arith in rw less refl

module _ (c : Container) (d : Description) (b sb : List ℕ) where
  -- whether the volumes are there is told without them
  there_is : (left i : ℕ) → there_from c d b sb left i ≡ volumes_from c d b sb left i >>= λ _. done tt
  unfolding there_from volumes_from ◌>>=◌
  there_is zero i = refl
  there_is (suc left) i =
      let here = volume_at c d b (volume_id sb i) in
      let later = volumes_from c d b sb left (i + 1) in
      ap (λ (g : List (List ℕ) → Reads (Unit {0})). here >>= g) (λ j v. (there_is left (i + 1) ∙ sym (bind_assoc later (λ rest. done (v ++ rest)) (λ _. done tt))) j) ∙ sym (bind_assoc here _ _)

  module _ (f : ℕ → List ℕ) where
    pub there_refused : (left i : ℕ) (r : Refusal) → run f (there_from c d b sb left i) ≡ refused r → run f (volumes_from c d b sb left i) ≡ refused r
    there_refused left i r e = told_refused f _ _ r (sym (ap (run f) (there_is left i)) ∙ e)

    pub volumes_refused : (s : Marked OverlapLog) (r : Refusal) → run f (volumes_from c d b sb (volume_places sb) 0) ≡ refused r → run f (claim_volumes c d b sb s) ≡ refused r
    unfolding claim_volumes
    volumes_refused s r e = then_refused f _ _ r e

    -- where they are, they are looked up again one by one
    claims_again : (left i : ℕ) (vs : List (List ℕ)) → run f (volumes_from c d b sb left i) ≡ given vs → (s : Marked OverlapLog) → run f (claim_each c vs s) ≡ run f (claims_from f c d b sb left i s)
    unfolding run volumes_from claims_from claim_each
    claims_again zero i vs e s = let same : [] ≡ vs = cc in rw (← same) refl
    claims_again (suc left) i vs e s =
        let first = both f (volume_at c d b (volume_id sb i)) _ vs e in
        let later = both f (volumes_from c d b sb left (i + 1)) _ vs first.rest in
        let same : given (first.first ++ later.first) ≡ given vs = later.rest in
        let all : first.first ++ later.first ≡ vs = cc in
        rw (← all) (ap (run f) (each_append c first.first later.first s)
        ∙ (then_same f (claim_each c first.first s) _ _ (λ t _. claims_again left (i + 1) later.first later.came t)
        ∙ same_then f _ _ _ (place_again f c d b (volume_id sb i) first.first first.came s)))

    pub volumes_again : (s : Marked OverlapLog) → let n = volume_places sb in run f (there_from c d b sb n 0 >>= λ _. claims_from f c d b sb n 0 s) ≡ run f (claim_volumes c d b sb s)
    unfolding ◌>>=◌ claim_volumes
    volumes_again s =
        let n = volume_places sb in
        let there = volumes_from c d b sb n 0 in
        rw (there_is n 0) (ap (run f) (bind_assoc there _ _) ∙ then_same f there _ _ (λ vs e. sym (claims_again n 0 vs e s)))
