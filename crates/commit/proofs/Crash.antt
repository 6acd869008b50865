-- The theorem of specs/Commit.antt: until the last store is complete the answer and the map are the old image's.
use mathlib.Core.Path.{◌≡◌, refl, sym, ap, ◌∙◌}
use mathlib.Core.Bool.{Bool, true, false, not}
use mathlib.Core.List.{List, [], ◌∷◌, ◌++◌}
use mathlib.Core.Logic.{◌≢◌}
use Prim.Native.Nat.{ℕ, ◌+◌, ◌<◌, ◌≤◌}
use native.Mathlib.Nat.{zero-mul}
use lib.ListN.{length, take}
use lib.Seq.{take-take}
use Rattle.fields.specs.Header.{xid_of}
use Rattle.blocks.specs.Reads.{run, no_blocks, visits, given}
use Rattle.blocks.specs.Blocks.{block_of}
use Rattle.blocks.proofs.Laws.{Agree, and_left, and_right, then_given, local}
use Rattle.checkpoint.specs.Superblock.{sound}
use Rattle.checkpoint.specs.Geometry.{geometry, least_size}
use Rattle.checkpoint.proofs.OpeningLaws.{geometry_given}
use Rattle.checkpoint.specs.Map.{chain}
use Rattle.checkpoint.specs.Checkpoint.{Taken, take_superblock}
use Rattle.checkpoint.specs.declared.Geometry.{Geometry}
use Rattle.space_check.specs.Check.{check, check_in, settle, pass, rest}
use Rattle.commit.specs.Stores.{Store, CutOf, block_touched, finished, complete}
use Rattle.commit.specs.Commit.{Rules, Limit, Crash, Runs, runs, promised}
use Rattle.commit.proofs.Stores.{not_true, block_same, complete_finished}
use Rattle.commit.proofs.Choice.{Leads, take_run}
use Rattle.commit.proofs.Taken.{stands, taken_sound, taken_loads, leads}
use Rattle.commit.proofs.Roles.{none_of, kept, kept_untouched}

first_of : (l : List ℕ) (size : ℕ) → least_size ≤ size → take least_size (block_of l size 0) ≡ take least_size l
unfolding block_of
first_of l size h = rw (zero-mul size) (take-take least_size size l h)

-- from a test that no block of a list meets, images that agree on it
agree_left : (f g : ℕ → List ℕ) (xs ys : List ℕ) → Agree f g (xs ++ ys) → Agree f g xs
unfolding Agree
agree_left f g [] ys h = tt
agree_left f g (x ∷ xs) ys h = (h.0, agree_left f g xs ys h.1)

agree_right : (f g : ℕ → List ℕ) (xs ys : List ℕ) → Agree f g (xs ++ ys) → Agree f g ys
unfolding Agree
agree_right f g [] ys h = h
agree_right f g (x ∷ xs) ys h = agree_right f g xs ys h.1

none_agree : (f g : ℕ → List ℕ) (test : ℕ → Bool) → ((n : ℕ) → test n ≡ false → f n ≡ g n) → (l : List ℕ) → none_of test l ≡ true → Agree f g l
unfolding Agree none_of
none_agree f g test h [] e = tt
none_agree f g test h (n ∷ ns) e =
    (h n (not_true (test n) (and_left (not (test n)) (none_of test ns) e)), none_agree f g test h ns (and_right (not (test n)) (none_of test ns) e))

-- the old answer at a cut that keeps the limit
module _ (image map : List ℕ) (ss : List Store) (r : Rules image map ss) (cut : List ℕ) (c : CutOf ss image cut) (l : Limit ss r.g r.t cut) where
  abbrev g : Geometry
  g = r.g

  abbrev t : Taken
  t = r.t

  abbrev old : ℕ → List ℕ
  old = block_of image r.g.size

  abbrev new : ℕ → List ℕ
  new = block_of cut r.g.size

  agrees : (n : ℕ) → block_touched ss g.size n ≡ false → old n ≡ new n
  agrees n e = sym (block_same c g.size n e)

  same_kept : Agree old new (kept old g map t)
  same_kept = none_agree old new (block_touched ss g.size) agrees _ (kept_untouched old g map t r.takes ss r.untouched)

  same_superblock : t.sb ≡ new (g.base + t.at)
  unfolding kept Agree
  same_superblock = stands old g t r.takes ∙ same_kept.1.0

  same_first : take least_size cut ≡ take least_size image
  unfolding kept Agree
  same_first =
      let big = (geometry_given (length image) (length map) (take least_size image) g r.opens).size.least in
      sym (first_of cut g.size big) ∙ (ap (take least_size) (sym same_kept.0) ∙ first_of image g.size big)

  opens_again : run no_blocks (geometry (length cut) (take least_size cut) (length map)) ≡ given g
  opens_again = rw (c.same_length, same_first) r.opens

  same_reads : Agree old new (visits old (chain g t.sb) ++ visits old (rest g map t))
  unfolding kept Agree
  same_reads = same_kept.1.1

  same_chain : run new (chain g t.sb) ≡ run old (chain g t.sb)
  same_chain = local old new (chain g t.sb) (agree_left old new _ (visits old (rest g map t)) same_reads)

  same_rest : run new (rest g map t) ≡ run old (rest g map t)
  same_rest = local old new (rest g map t) (agree_right old new (visits old (chain g t.sb)) _ same_reads)

  still_highest : (j : ℕ) → j < g.ring → j ≢ t.at → sound (new (g.base + j)) ≡ true → xid_of (new (g.base + j)) < xid_of t.sb
  unfolding Limit
  still_highest j h ne s = go (block_touched ss g.size (g.base + j)) refl
    where
      go : (b : Bool) → block_touched ss g.size (g.base + j) ≡ b → xid_of (new (g.base + j)) < xid_of t.sb
      go true e = l j h e s
      go false e = rw (← agrees (g.base + j) e) (r.takes.highest j h ne (rw (agrees (g.base + j) e) s))

  leads_again : Leads new g t.at t.map
  leads_again =
      record {
        inside = (leads old g t r.takes).inside;
        is_sound = rw (← same_superblock) (taken_sound old g t r.takes);
        highest = rw (← same_superblock) still_highest;
        loads = rw (← same_superblock) (same_chain ∙ taken_loads old g t r.takes);
      }

  taken_again : run new (take_superblock g) ≡ given t
  taken_again = take_run new g t.at t.map leads_again ∙ rw (← same_superblock) refl

  same_pass : run new (pass g map) ≡ run old (pass g map)
  unfolding pass
  same_pass =
      then_given new (take_superblock g) (rest g map) t taken_again
      ∙ (same_rest ∙ sym (then_given old (take_superblock g) (rest g map) t r.takes.taken))

  old_answer : check cut map ≡ check image map
  unfolding check check_in
  old_answer = rw (opens_again, r.opens) (ap (settle g.count map) same_pass)

pub crash : Crash
unfolding runs promised
crash image map ss r cut c limit = go (complete ss cut) refl
  where
    go : (t : Bool) → complete ss cut ≡ t → runs image cut map ≡ promised ss image cut map
    go true e = rw (e, ← complete_finished ss image cut c e) refl
    go false e = rw (e, old_answer image map ss r cut c (limit e)) refl

-- what that says of run two
module _ (image map : List ℕ) (ss : List Store) (cut : List ℕ) (e : runs image cut map ≡ promised ss image cut map) where
  pub two_before : complete ss cut ≡ false → check cut map ≡ check image map
  unfolding runs promised
  two_before b = ap (λ (r : Runs). r.two) e ∙ rw b refl

  pub two_after : complete ss cut ≡ true → check cut map ≡ check (finished ss image) map
  unfolding runs promised
  two_after b = ap (λ (r : Runs). r.two) e ∙ rw b refl
