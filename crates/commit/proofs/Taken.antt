-- The superblock that run one takes is sound and its chain loads; so it leads, and is the first to be tried.
use Rattle.std.specs.Prelude.{None, Option, Some}
use mathlib.Core.Path.{◌≡◌, refl, sym, ◌∙◌}
use mathlib.Core.Bool.{Bool, true, false, ◌&&◌}
use mathlib.Core.List.{List}
use Prim.Native.Nat.{ℕ, zero, suc, ◌+◌, ◌-◌}
use native.Mathlib.Omega.{arith}
use Rattle.fields.specs.Choice.{pick}
use Rattle.fields.specs.Header.{xid_of}
use Rattle.blocks.specs.Reads.{run, given, refused}
use Rattle.blocks.specs.declared.Refusal.{Refusal}
use Rattle.blocks.proofs.Laws.{and_left}
use Rattle.checkpoint.specs.Superblock.{sound}
use Rattle.checkpoint.specs.Map.{chain}
use Rattle.checkpoint.specs.Checkpoint.{Taken, is_after, is_ahead, best_from}
use Rattle.checkpoint.specs.clauses.InPlace.{blocks_from, loads}
use Rattle.checkpoint.specs.declared.Geometry.{Geometry}
use Rattle.checkpoint.specs.declared.Candidate.{Candidate}
use Rattle.checkpoint.specs.declared.Mapping.{Mapping}
use Rattle.checkpoint.proofs.ChainLaws.{chain_loads}
use Rattle.checkpoint.proofs.SearchLaws.{next, try_left, take_tries, try_end, try_none, try_here, try_next, taken_given}
use Rattle.commit.specs.Commit.{Takes}
use Rattle.commit.proofs.Choice.{Leads, taken_at, take_run}

never : (r : Refusal) (t : Taken) → refused r ≡ given t → ⊥
never r t q = let z : ◌≡◌ {A = ℕ} 0 1 = cc in omega arith

same : (s t : Taken) → given s ≡ given t → s ≡ t
same s t e = cc

-- a block is taken for the best found
abbrev wins : Option Candidate → Option Candidate → ℕ → List ℕ → Bool
wins last best i b = sound b && is_after last (xid_of b) i && is_ahead best (xid_of b)

module _ (f : ℕ → List ℕ) (g : Geometry) where
  -- the best found is sound
  abbrev Sound : Option Candidate → Type 0
  Sound best = (c : Candidate) → best ≡ Some c → sound (f (g.base + c.at)) ≡ true

  sound_nothing : Sound None
  sound_nothing c e = let z : ◌≡◌ {A = ℕ} 0 1 = cc in absurd (omega arith)

  best_sound : (last : Option Candidate) (left n i : ℕ) (best : Option Candidate) → n ≡ g.base + i → Sound best → Sound (best_from last i (blocks_from f left n) best)
  unfolding best_from blocks_from
  best_sound last zero n i best p s = s
  best_sound last (suc left) n i best p s =
      best_sound last left (n + 1) (i + 1) _ (omega arith) (step (wins last best i (f n)) refl)
    where
      step : (w : Bool) → wins last best i (f n) ≡ w → Sound (pick w (Some (record { at = i; xid = xid_of (f n) })) best)
      step true e c q = let at : i ≡ c.at = cc in rw (← at, ← p) (and_left _ _ (and_left _ _ e))
      step false e c q = s c q

  next_sound : (last : Option Candidate) → Sound (next f g last)
  next_sound last = best_sound last g.ring g.base 0 None (omega arith) sound_nothing

  tried_sound : (left : ℕ) (last : Option Candidate) (t : Taken) → try_left f g left last ≡ given t → sound t.sb ≡ true
  tried_sound zero last t e = absurd (never _ t (sym (try_end f g 0 last refl) ∙ e))
  tried_sound (suc left) last t e = go (next f g last) (λ c q. tried_sound left (Some c) t q) refl
    where
      go : (b : Option Candidate) → ((c : Candidate) → try_left f g left (Some c) ≡ given t → sound t.sb ≡ true)
          → next f g last ≡ b → sound t.sb ≡ true
      go None rest b = absurd (never _ t (sym (try_none f g (suc left) last b) ∙ e))
      go (Some c) rest b = on (loads (run f (chain g (f (g.base + c.at))))) refl
        where
          more : suc left ≡ 0 → ⊥
          more z = omega arith

          on : (l : Bool) → loads (run f (chain g (f (g.base + c.at)))) ≡ l → sound t.sb ≡ true
          on true l = rw (← same _ t (sym (try_here f g (suc left) last c more b _ refl l) ∙ e)) (next_sound last c b)
          on false l = let less : suc left - 1 ≡ left = omega arith in rest c (rw less at (sym (try_next f g (suc left) last c more b _ refl l) ∙ e))

  module _ (t : Taken) (takes : Takes f g t) where
    pub stands : t.sb ≡ f (g.base + t.at)
    stands = (taken_given f g t takes.taken).stands

    pub taken_sound : sound t.sb ≡ true
    taken_sound = tried_sound g.ring None t (sym (take_tries f g) ∙ takes.taken)

    pub taken_loads : run f (chain g t.sb) ≡ given (Some t.map)
    taken_loads = let is = taken_given f g t takes.taken in chain_loads f g t.sb is.loaded ∙ rw is.mapped refl

    pub leads : Leads f g t.at t.map
    leads =
        record {
          inside = (taken_given f g t takes.taken).inside;
          is_sound = rw (← stands) taken_sound;
          highest = rw (← stands) takes.highest;
          loads = rw (← stands) taken_loads;
        }

  -- and one that leads is taken
  pub leading_taken : (at : ℕ) (ms : List Mapping) → Leads f g at ms → Takes f g (taken_at f g at ms)
  leading_taken at ms l = record { taken = take_run f g at ms l; highest = l.highest }
