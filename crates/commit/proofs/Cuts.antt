-- Cuts by the stores that made them: parts of a commit's own leave what it may leave; when it is complete, and when not.
use mathlib.Core.Path.{◌≡◌, refl, sym, ◌∙◌}
use mathlib.Core.Bool.{Bool, true, false, not, ◌&&◌, ◌||◌, true≢false}
use mathlib.Core.List.{List, [], ◌∷◌}
use mathlib.Core.Logic.{◌≢◌}
use Prim.Native.Nat.{ℕ, suc, ◌+◌, ◌≤◌, ◌<◌}
use native.Mathlib.Omega.{arith}
use native.Mathlib.Nat.{add-zero, zero-add}
use lib.Dec.{leb, ltb, eqb}
use lib.ListN.{length, get_or}
use borrow.Author.Tests.{leb-true, ltb-true, lt-ltb, le-leb, eq-eqb}
use Rattle.blocks.proofs.Laws.{and_left, and_right}
use Rattle.commit.specs.Stores.{Store, CutOf, covers, touched, final_byte, finished, complete_from, complete}
use Rattle.commit.proofs.Stores.{or_left, or_right, finished_length, finished_byte, finished_cut, final_touched, complete_byte}

-- each of some stores lies inside one of a commit's

abbrev ends : Store → ℕ
ends s = s.at + length s.bytes

abbrev inside : Store → Store → Bool
inside p s = leb s.at p.at && leb (ends p) (ends s)

unfoldable pub inside_any : List Store → Store → Bool
inside_any [] p = false
inside_any (s ∷ ss) p = inside p s || inside_any ss p

unfoldable pub parts_of : List Store → List Store → Bool
parts_of ss [] = true
parts_of ss (p ∷ ps) = inside_any ss p && parts_of ss ps

inside_covers : (p s : Store) (i : ℕ) → inside p s ≡ true → covers p i ≡ true → covers s i ≡ true
inside_covers p s i e c =
    let starts : s.at ≤ p.at = leb-true _ _ (and_left (leb s.at p.at) (leb (ends p) (ends s)) e) in
    let stops : ends p ≤ ends s = leb-true _ _ (and_right (leb s.at p.at) (leb (ends p) (ends s)) e) in
    let after : p.at ≤ i = leb-true _ _ (and_left (leb p.at i) (ltb i (ends p)) c) in
    let before : i < ends p = ltb-true _ _ (and_right (leb p.at i) (ltb i (ends p)) c) in
    rw (le-leb s.at i (omega arith), lt-ltb i (ends s) (omega arith)) refl

inside_untouched : (p s : Store) (i : ℕ) → inside p s ≡ true → covers s i ≡ false → covers p i ≡ false
inside_untouched p s i e u = go (covers p i) refl
  where
    go : (b : Bool) → covers p i ≡ b → covers p i ≡ false
    go true c = absurd (true≢false (sym (inside_covers p s i e c) ∙ u))
    go false c = c

any_untouched : (ss : List Store) (p : Store) (i : ℕ) → inside_any ss p ≡ true → touched ss i ≡ false → covers p i ≡ false
unfolding inside_any touched
any_untouched [] p i e u = absurd (true≢false (sym e))
any_untouched (s ∷ ss) p i e u = go (inside p s) refl (λ h. any_untouched ss p i h (or_right (covers s i) (touched ss i) u))
  where
    go : (b : Bool) → inside p s ≡ b → (inside_any ss p ≡ true → covers p i ≡ false) → covers p i ≡ false
    go true q next = inside_untouched p s i q (or_left (covers s i) (touched ss i) u)
    go false q next = next (rw q at e)

parts_untouched : (ss ps : List Store) (i : ℕ) → parts_of ss ps ≡ true → touched ss i ≡ false → touched ps i ≡ false
unfolding parts_of touched
parts_untouched ss [] i e u = refl
parts_untouched ss (p ∷ ps) i e u =
    rw (any_untouched ss p i (and_left (inside_any ss p) (parts_of ss ps) e) u) (parts_untouched ss ps i (and_right (inside_any ss p) (parts_of ss ps) e) u)

-- what such stores leave, the commit's may leave
pub parts_cut : (ss ps : List Store) (image : List ℕ) → parts_of ss ps ≡ true → CutOf ss image (finished ps image)
parts_cut ss ps image e = record {
  same_length = finished_length ps image;
  kept = λ i u. (finished_cut ps image).kept i (parts_untouched ss ps i e u);
}

-- one touched byte that hasn't its final content
pub incomplete_at : (ss : List Store) (cut : List ℕ) (i : ℕ)
    → i < length cut → touched ss i ≡ true → get_or cut i 0 ≢ final_byte ss i 0 → complete ss cut ≡ false
incomplete_at ss cut i h t ne = go (complete ss cut) refl
  where
    go : (b : Bool) → complete ss cut ≡ b → complete ss cut ≡ false
    go true e = absurd (ne (rw zero-add at (complete_byte ss 0 cut e i h (rw zero-add t))))
    go false e = e

-- the finished image is complete
all_complete : (ss : List Store) (i : ℕ) (cut : List ℕ)
    → ((j : ℕ) → j < length cut → touched ss (i + j) ≡ true → get_or cut j 0 ≡ final_byte ss (i + j) 0) → complete_from ss i cut ≡ true
unfolding complete_from
all_complete ss i [] h = refl
all_complete ss i (x ∷ cut) h = rw (all_complete ss (i + 1) cut later) (here (touched ss i) refl)
  where
    later : (j : ℕ) → j < length cut → touched ss (i + 1 + j) ≡ true → get_or cut j 0 ≡ final_byte ss (i + 1 + j) 0
    later j k t = let same : i + 1 + j ≡ i + suc j = omega arith in rw same (h (suc j) (omega arith) (rw same at t))

    here : (b : Bool) → touched ss i ≡ b → ((not b || eqb x (final_byte ss i 0)) && true) ≡ true
    here true t = rw (eq-eqb x (final_byte ss i 0) (rw add-zero at (h 0 (omega arith) (rw add-zero t)))) refl
    here false t = refl

pub finished_complete : (ss : List Store) (image : List ℕ) → complete ss (finished ss image) ≡ true
finished_complete ss image = all_complete ss 0 (finished ss image) held
  where
    held : (j : ℕ) → j < length (finished ss image) → touched ss (0 + j) ≡ true → get_or (finished ss image) j 0 ≡ final_byte ss (0 + j) 0
    held j h t = rw zero-add (finished_byte ss image j (rw (← finished_length ss image) h) ∙ final_touched ss j (get_or image j 0) 0 (rw zero-add at t))
