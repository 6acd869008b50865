-- Laws of the repeated search for the next best superblock.
use Rattle.std.specs.Prelude.{None, Option, Some}
use mathlib.Core.Path.{◌≡◌, refl, sym, ap, subst, ◌∙◌}
use mathlib.Core.Bool.{Bool, true, false, ◌&&◌}
use mathlib.Core.List.{List, [], ◌∷◌}
use Prim.Native.Nat.{ℕ, zero, suc, ◌+◌, ◌-◌, ◌<◌}
use native.Mathlib.Nat.{add-zero, sub-zero, le_of_suc-le-suc, not-suc-le-zero, add-sub_cancel_left}
use native.Mathlib.Omega.{arith}
use Rattle.std.specs.List.{fold, range_with_len}
use lib.ListN.{get_or}
use Rattle.fields.specs.Choice.{pick}
use Rattle.fields.specs.Header.{xid_of}
use Rattle.blocks.specs.Reads.{Outcome, given, refused, run, done, ◌>>=◌}
use Rattle.blocks.proofs.Laws.{and_then, run_bind, then_given}
use Rattle.blocks.specs.declared.Refusal.{Refusal}
use Rattle.blocks.specs.declared.Refusal.TheVariants.{NoCheckpoint}
use Rattle.checkpoint.specs.Superblock.{sound}
use Rattle.checkpoint.specs.Map.{chain}
use Rattle.checkpoint.specs.Checkpoint.{Taken, area_from, is_after, is_ahead, best_from, loaded, try, try_from, take_superblock}
use Rattle.checkpoint.specs.clauses.InPlace.{blocks_from, loads, map_of}
use Rattle.checkpoint.specs.clauses.Answers.{taken_in}
use Rattle.checkpoint.proofs.ChainLaws.{chain_loads, chain_fails}
use Rattle.checkpoint.specs.declared.Geometry.{Geometry}
use Rattle.checkpoint.specs.declared.Candidate.{Candidate}

pub area_run : (f : ℕ → List ℕ) (left a : ℕ) → run f (area_from left a) ≡ given (blocks_from f left a)
unfolding run area_from blocks_from ◌>>=◌
area_run f zero a = refl
area_run f (suc left) a =
    run_bind f (area_from left (a + 1)) (λ bs. done (f a ∷ bs)) ∙ ap (λ (o : Outcome (List (List ℕ))). and_then o (λ bs. given (f a ∷ bs))) (area_run f left (a + 1))

pub blocks_at : (f : ℕ → List ℕ) (left a j : ℕ) → j < left → get_or (blocks_from f left a) j [] ≡ f (a + j)
unfolding blocks_from
blocks_at f zero a j h = absurd (not-suc-le-zero h)
blocks_at f (suc left) a zero h = rw add-zero refl
blocks_at f (suc left) a (suc j) h = let same : a + suc j ≡ a + 1 + j = omega arith in rw same (blocks_at f left (a + 1) j (le_of_suc-le-suc h))

-- the search along the area, as a fold over its places
module _ (f : ℕ → List ℕ) (g : Geometry) (last : Option Candidate) where
  abbrev pub best_turn : Option Candidate → ℕ → Option Candidate
  best_turn best i = best_from last i (f (g.base + i) ∷ []) best

  best_folds : (n i : ℕ) (best : Option Candidate) → fold best_turn best (range_with_len i n) ≡ best_from last i (blocks_from f n (g.base + i)) best
  unfolding best_from blocks_from
  best_folds zero i best = refl
  best_folds (suc n) i best =
      let same : g.base + i + 1 ≡ g.base + (i + 1) = omega arith in
      rw same (best_folds n (i + 1) (best_turn best i))

  pub best_all : fold best_turn None (range_with_len 0 (g.ring - 0)) ≡ best_from last 0 (blocks_from f g.ring g.base) None
  best_all = best_folds (g.ring - 0) 0 None ∙ rw (sub-zero, add-zero) refl

-- the best found is one of the area
abbrev Within : ℕ → Option Candidate → Type 0
Within n best = (c : Candidate) → best ≡ Some c → c.at < n

within_nothing : (n : ℕ) → Within n None
within_nothing n c e = let z : ◌≡◌ {A = ℕ} 0 1 = cc in absurd (omega arith)

best_within : (f : ℕ → List ℕ) (last : Option Candidate) (left n i : ℕ) (best : Option Candidate) → Within i best → Within (i + left) (best_from last i (blocks_from f left n) best)
unfolding best_from blocks_from
best_within f last zero n i best w = rw add-zero w
best_within f last (suc left) n i best w =
    let same : i + suc left ≡ i + 1 + left = omega arith in
    rw same (best_within f last left (n + 1) (i + 1) _ (step (sound (f n) && is_after last (xid_of (f n)) i && is_ahead best (xid_of (f n)))))
  where
    step : (t : Bool) → Within (i + 1) (pick t (Some (record { at = i; xid = xid_of (f n) })) best)
    step true c e = let at : i ≡ c.at = cc in omega arith
    step false c e = omega (arith, w c e)

never : (r : Refusal) (t : Taken) → refused r ≡ given t → ⊥
never r t q = let z : ◌≡◌ {A = ℕ} 0 1 = cc in omega arith

same : (s t : Taken) → given s ≡ given t → s ≡ t
same s t e = cc

module _ (f : ℕ → List ℕ) (g : Geometry) where
  abbrev area : List (List ℕ)
  area = blocks_from f g.ring g.base

  abbrev pub next : Option Candidate → Option Candidate
  next last = best_from last 0 area None

  pub next_inside : (last : Option Candidate) (c : Candidate) → next last ≡ Some c → c.at < g.ring
  next_inside last c e = omega (arith, best_within f last g.ring g.base 0 None (within_nothing 0) c e)

  -- what is left of the search, after the one tried last
  abbrev pub try_left : ℕ → Option Candidate → Outcome Taken
  try_left left last = run f (try_from g area left last)

  pub take_tries : run f (take_superblock g) ≡ try_left g.ring None
  unfolding take_superblock
  take_tries = then_given f (area_from g.ring g.base) _ _ (area_run f g.ring g.base)

  pub try_end : (left : ℕ) (last : Option Candidate) → left ≡ 0 → try_left left last ≡ refused NoCheckpoint
  unfolding run try_from
  try_end left last e = rw e refl

  pub try_none : (left : ℕ) (last : Option Candidate) → next last ≡ None → try_left left last ≡ refused NoCheckpoint
  unfolding run try_from try
  try_none zero last e = refl
  try_none (suc left) last e = rw e refl

  module _ (left : ℕ) (last : Option Candidate) (c : Candidate) (more : left ≡ 0 → ⊥) (best : next last ≡ Some c) (sb : List ℕ) (is : sb ≡ f (g.base + c.at)) where
    -- the next best is tried
    tried : try_left left last ≡ run f (chain g sb >>= loaded (λ d. try_from g area (left - 1) (Some d)) c sb)
    unfolding try_from try
    tried = go left more
      where
        go : (n : ℕ) → (n ≡ 0 → ⊥) → try_left n last ≡ run f (chain g sb >>= loaded (λ d. try_from g area (n - 1) (Some d)) c sb)
        go zero h = absurd (h refl)
        go (suc n) h =
            let less : suc n - 1 ≡ n = omega arith in
            let at : get_or area c.at [] ≡ sb = blocks_at f g.ring g.base c.at (next_inside last c best) ∙ sym is in
            rw (less, best) (rw at refl)

    pub try_here : loads (run f (chain g sb)) ≡ true → try_left left last ≡ given (taken_in f g (record { 0 = g.base + c.at }))
    unfolding run loaded
    try_here e =
        let at : g.base + c.at - g.base ≡ c.at = add-sub_cancel_left _ _ in
        tried ∙ then_given f (chain g sb) _ _ (chain_loads f g sb e) ∙ rw (at, ← is) refl

    pub try_next : loads (run f (chain g sb)) ≡ false → try_left left last ≡ try_left (left - 1) (Some c)
    unfolding loaded
    try_next e = tried ∙ then_given f (chain g sb) _ _ (chain_fails f g sb e)

  -- what is known of the superblock that was taken
  pub record IsTaken (t : Taken) : Type 0 where
    pub loaded : loads (run f (chain g t.sb)) ≡ true
    pub mapped : t.map ≡ map_of (run f (chain g t.sb))
    pub inside : t.at < g.ring
    pub stands : t.sb ≡ f (g.base + t.at)

  taken_at : (c : Candidate) → c.at < g.ring → loads (run f (chain g (f (g.base + c.at)))) ≡ true → IsTaken (taken_in f g (record { 0 = g.base + c.at }))
  taken_at c h l =
      let at : g.base + c.at - g.base ≡ c.at = add-sub_cancel_left _ _ in
      record { loaded = l; mapped = refl; inside = rw at h; stands = rw at refl }

  tried_given : (left : ℕ) (last : Option Candidate) (t : Taken) → try_left left last ≡ given t → IsTaken t
  tried_given zero last t e = absurd (never _ t (sym (try_end 0 last refl) ∙ e))
  tried_given (suc left) last t e = go (next last) (λ c q. tried_given left (Some c) t q) refl
    where
      go : (b : Option Candidate) → ((c : Candidate) → try_left left (Some c) ≡ given t → IsTaken t) → next last ≡ b → IsTaken t
      go None rest b = absurd (never _ t (sym (try_none (suc left) last b) ∙ e))
      go (Some c) rest b = on (loads (run f (chain g (f (g.base + c.at))))) refl
        where
          more : suc left ≡ 0 → ⊥
          more z = omega arith

          on : (l : Bool) → loads (run f (chain g (f (g.base + c.at)))) ≡ l → IsTaken t
          on true l = subst IsTaken (same _ t (sym (try_here (suc left) last c more b _ refl l) ∙ e)) (taken_at c (next_inside last c b) l)
          on false l = let less : suc left - 1 ≡ left = omega arith in rest c (rw less at (sym (try_next (suc left) last c more b _ refl l) ∙ e))

  pub taken_given : (t : Taken) → run f (take_superblock g) ≡ given t → IsTaken t
  taken_given t e = tried_given g.ring None t (sym take_tries ∙ e)
