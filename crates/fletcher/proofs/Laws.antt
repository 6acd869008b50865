-- Laws of the sums: they count modulo M alone, one word more, and a piece after a piece.
use mathlib.Core.Path.{◌≡◌, refl, sym, ap, ap₂, ◌∙◌}
use mathlib.Core.Bool.{false}
use mathlib.Core.List.{List, [], ◌∷◌, ◌++◌, append_assoc}
use Prim.Native.Nat.{ℕ, suc, ◌+◌, ◌-◌, ◌*◌, ◌/◌, ◌%◌, ◌^◌, ◌≤◌, ◌<◌}
use native.Mathlib.Nat.{add_comm, add-mod, mod-mod, mul-add, add-mul, mul-le-mul}
use native.Mathlib.Numerals.{towards_suc}
use native.Mathlib.Omega.{arith}
use lib.ListN.{length, take, drop, length-append, length-drop}
use lib.Dec.{eqb}
use lib.Seq.{drop-cons, take_all, take-append-add}
use borrow.Author.Tests.{le-leb, lt-leb, eq-eqb, ne_eqb}
use Rattle.fields.specs.Header.{stored_checksum}
use Rattle.fletcher.specs.Fletcher.{M, word, low, seal, fletcher, checksum, verifies}
use Rattle.fletcher.specs.clauses.Pieces.{words, word_at, plus_word, Reduced, Added, Plus}
use Rattle.fletcher.specs.declared.Sums.{Sums}

cong : (m a a' b b' : ℕ) → a % m ≡ a' % m → b % m ≡ b' % m → (a + b) % m ≡ (a' + b') % m
cong m a a' b b' p q = rw (add-mod a b m, p, q, ← add-mod a' b' m)

seal_mod : (s t s' t' : ℕ) → s % M ≡ s' % M → t % M ≡ t' % M → seal s t ≡ seal s' t'
unfolding seal
seal_mod s t s' t' p q = ap₂ (λ (x y : ℕ). (M - x) * 2 ^ 32 + y) (cong M s s' _ _ p (ap (λ (x : ℕ). x % M) e)) e
  where
    e : low s t ≡ low s' t'
    e = ap (λ (x : ℕ). M - x) (cong M s s' t t' p q)

fletcher_mod : (b : List ℕ) (s t s' t' : ℕ) → s % M ≡ s' % M → t % M ≡ t' % M → fletcher b s t ≡ fletcher b s' t'
unfolding fletcher
fletcher_mod [] s t s' t' p q = seal_mod s t s' t' p q
fletcher_mod (a ∷ []) s t s' t' p q = seal_mod s t s' t' p q
fletcher_mod (a ∷ b ∷ []) s t s' t' p q = seal_mod s t s' t' p q
fletcher_mod (a ∷ b ∷ c ∷ []) s t s' t' p q = seal_mod s t s' t' p q
fletcher_mod (a ∷ b ∷ c ∷ d ∷ l) s t s' t' p q = fletcher_mod l _ _ _ _ step (cong M t t' _ _ q step)
  where
    step : (s + word a b c d) % M ≡ (s' + word a b c d) % M
    step = cong M s s' _ _ p refl

-- a remainder now and then changes nothing
pub fletcher_reduced : (b : List ℕ) (s t : ℕ) → fletcher b (s % M) (t % M) ≡ fletcher b s t
fletcher_reduced b s t = fletcher_mod b (s % M) (t % M) s t (mod-mod s M) (mod-mod t M)

-- a piece of whole words
pub words_whole : (b : List ℕ) → length b % 4 ≡ 0 → words b ≡ b
unfolding words
words_whole b h = take_all (length b / 4 * 4) b (omega arith)

words_append : (p q : List ℕ) → length p % 4 ≡ 0 → words (p ++ q) ≡ p ++ words q
unfolding words
words_append p q h = rw (length-append, e, take-append-add)
  where
    e : (length p + length q) / 4 * 4 ≡ length p + length q / 4 * 4
    e = omega arith

-- the sums after a list's words
unfoldable pub run : List ℕ → Sums → Sums
run [] x = x
run (a ∷ []) x = x
run (a ∷ b ∷ []) x = x
run (a ∷ b ∷ c ∷ []) x = x
run (a ∷ b ∷ c ∷ d ∷ l) x = run l (plus_word x (word a b c d))

run_fletcher : (b rest : List ℕ) (x : Sums) → fletcher rest (run b x).s (run b x).t ≡ fletcher (words b ++ rest) x.s x.t
unfolding run fletcher words
run_fletcher [] rest x = refl
run_fletcher (a ∷ []) rest x = refl
run_fletcher (a ∷ b ∷ []) rest x = refl
run_fletcher (a ∷ b ∷ c ∷ []) rest x = refl
run_fletcher (a ∷ b ∷ c ∷ d ∷ l) rest x = rw (words_append (a ∷ b ∷ c ∷ d ∷ []) l refl) (run_fletcher l rest _)

run_short : (b : List ℕ) (x : Sums) → length b < 4 → run b x ≡ x
unfolding run
run_short [] x h = refl
run_short (a ∷ []) x h = refl
run_short (a ∷ b ∷ []) x h = refl
run_short (a ∷ b ∷ c ∷ []) x h = refl
run_short (a ∷ b ∷ c ∷ d ∷ l) x h = absurd (omega arith)

-- one word more
run_more : (b : List ℕ) (at : ℕ) (x : Sums) → at + 4 ≤ length b → run (drop (at + 4) b) (plus_word x (word_at b at)) ≡ run (drop at b) x
unfolding run
run_more b at x h = simp towards_suc (rw (drop-cons b at 0 (omega arith), drop-cons b (suc at) 0 (omega arith), drop-cons b (suc (suc at)) 0 (omega arith), drop-cons b (suc (suc (suc at))) 0 (omega arith)))

abbrev pub none : Sums
none = record { s = 0; t = 0 }

-- the algebra of one word: m words after it, s before
spread : (m s w t t' : ℕ) → t + (s + w) + (m * (s + w) + t') ≡ t + ((m + 1) * s + (w + (m * w + t')))
spread m s w t t' = omega (arith, mul-add m s w, add-mul m 1 s)

-- from other sums: what was summed before counts once more for each word
run_from : (b : List ℕ) (x : Sums)
    → ((run b x).s ≡ x.s + (run b none).s) × ((run b x).t ≡ x.t + (length b / 4 * x.s + (run b none).t))
unfolding run
run_from [] x = (omega arith, omega arith)
run_from (a ∷ []) x = (omega arith, omega arith)
run_from (a ∷ b ∷ []) x = (omega arith, omega arith)
run_from (a ∷ b ∷ c ∷ []) x = (omega arith, omega arith)
run_from (a ∷ b ∷ c ∷ d ∷ l) x =
    let w = word a b c d in
    let here = run_from l (plus_word x w) in
    let there = run_from l (plus_word none w) in
    let n : suc (suc (suc (suc (length l)))) / 4 ≡ length l / 4 + 1 = omega arith in
    (omega (arith, here.0, there.0), rw n (omega (arith, here.1, there.1, spread (length l / 4) x.s w x.t (run l none).t)))

run_append : (p q : List ℕ) (x : Sums) → length p % 4 ≡ 0 → run (p ++ q) x ≡ run q (run p x)
unfolding run
run_append [] q x h = refl
run_append (a ∷ []) q x h = absurd (omega arith)
run_append (a ∷ b ∷ []) q x h = absurd (omega arith)
run_append (a ∷ b ∷ c ∷ []) q x h = absurd (omega arith)
run_append (a ∷ b ∷ c ∷ d ∷ p) q x h = run_append p q _ (omega arith)

-- the sums after a piece's words, reduced
pub added_run : (b : List ℕ) (x y r : Sums) → y ≡ run b x → Added [] y r → Added b x r
unfolding words
added_run b x y r e reduced = record {
  onward = λ rest. reduced.onward rest ∙ ap (λ (z : Sums). fletcher rest z.s z.t) e ∙ run_fletcher b rest x;
  fits = reduced.fits;
}

-- a half in the loop: what is left gives the whole, and the sums are small
pub record Half (b : List ℕ) (at : ℕ) (from x : Sums) : Type 0 where
  pub left : run (drop at b) x ≡ run b from
  pub s_small : x.s < (at + 4) * 2 ^ 30
  pub t_small : x.t < (at + 4) * (513 * 2 ^ 30)

pub half_start : (b : List ℕ) (x : Sums) → Reduced x → Half b 0 x x
half_start b x fits = record { left = refl; s_small = omega arith; t_small = omega arith }

pub half_more : (b : List ℕ) (at next : ℕ) (from x r : Sums) → next ≡ at + 4 → at + 4 ≤ length b → length b ≤ 2048 → Half b at from x → Plus b at x r → Half b next from r
half_more b at next from x r n h most half plus = record {
  left = rw n (ap (λ (y : Sums). run (drop (at + 4) b) y) plus.is ∙ run_more b at x h ∙ half.left);
  s_small = omega arith;
  t_small = omega arith;
}

pub half_two : (b : List ℕ) (at : ℕ) (from x y r : Sums) → at + 8 ≤ length b → length b ≤ 2048 → Half b at from x → Plus b at x y → Plus b (at + 4) y r → Half b (at + 8) from r
half_two b at from x y r h most half one two =
    half_more b (at + 4) (at + 8) from y r (omega arith) (omega arith) most (half_more b at (at + 4) from x y refl (omega arith) most half one) two

pub half_done : (b : List ℕ) (at : ℕ) (from x : Sums) → Half b at from x → length b < at + 4 → x ≡ run b from
half_done b at from x half h = sym (run_short (drop at b) x (rw length-drop (omega arith))) ∙ half.left

-- both halves summed: the first's sum counts once more for each word of the second
pub halves_done : (p q : List ℕ) (at : ℕ) (x a b : Sums) → length p % 4 ≡ 0 → length p ≡ at → length q ≡ at → Half p at x a → Half q at none b
    → record { s = a.s + b.s; t = a.t + (at / 4 * a.s + b.t) } ≡ run (p ++ q) x
halves_done p q at x a b h k k' first second = rw (run_append p q x h, ← half_done p at x a first (omega arith)) joined
  where
    from : ((run q a).s ≡ a.s + b.s) × ((run q a).t ≡ a.t + (at / 4 * a.s + b.t))
    from = rw (half_done q at none b second (omega arith), ← k') (run_from q a)

    joined : record { s = a.s + b.s; t = a.t + (at / 4 * a.s + b.t) } ≡ run q a
    joined = λ i. record { s = sym from.0 i; t = sym from.1 i }

pub times_small : (m s : ℕ) → m ≤ 512 → s ≤ 2052 * 2 ^ 30 → m * s < 2 ^ 52
times_small m s h k = let le : m * s ≤ 512 * (2052 * 2 ^ 30) = mul-le-mul h k in omega arith

-- a piece of whole words, and then another
pub added_then : (p q : List ℕ) (a b c : Sums) → length p % 4 ≡ 0 → Added p a b → Added q b c → Added (p ++ q) a c
added_then p q a b c h first second = record {
  onward = λ rest. second.onward rest ∙ first.onward (words q ++ rest) ∙ rw (words_whole p h, words_append p q h, append_assoc);
  fits = second.fits;
}

-- a block of whole words, the other blocks, and what is left after them
pub added_block : (blocks block more rest : List ℕ) (x y z : Sums) → blocks ≡ block ++ more → length block % 4 ≡ 0 → Added block x y → Added (more ++ rest) y z → Added (blocks ++ rest) x z
added_block blocks block more rest x y z cut whole first second = rw (cut, append_assoc) (added_then block (more ++ rest) x y z whole first second)

-- the part from a place to the end
pub part_end : (b : List ℕ) (at : ℕ) → take (length b - at) (drop at b) ≡ drop at b
part_end b at = take_all (length b - at) (drop at b) (simp length-drop (omega arith))

fletcher_words : (b : List ℕ) (s t : ℕ) → fletcher (words b ++ []) s t ≡ fletcher b s t
unfolding fletcher words
fletcher_words [] s t = refl
fletcher_words (a ∷ []) s t = refl
fletcher_words (a ∷ b ∷ []) s t = refl
fletcher_words (a ∷ b ∷ c ∷ []) s t = refl
fletcher_words (a ∷ b ∷ c ∷ d ∷ l) s t = rw (words_append (a ∷ b ∷ c ∷ d ∷ []) l refl) (fletcher_words l _ _)

-- the sums after the last piece, sealed: with `added_then`, pieces of whole words give the checksum of all their bytes
pub added_seal : (b : List ℕ) (x r : Sums) → Added b x r → seal r.s r.t ≡ fletcher b x.s x.t
unfolding fletcher
added_seal b x r added = added.onward [] ∙ fletcher_words b _ _

pub pieces_seal : (p q : List ℕ) (x y z : Sums) → length p % 4 ≡ 0 → Added p x y → Added q y z → seal z.s z.t ≡ fletcher (p ++ q) x.s x.t
pieces_seal p q x y z h first second = added_seal (p ++ q) x z (added_then p q x y z h first second)

-- the seal tells both sums modulo M, so that what `add` ensures is one answer

halves_once : (h l h' l' : ℕ) → l < 2 ^ 32 → l' < 2 ^ 32 → h * 2 ^ 32 + l ≡ h' * 2 ^ 32 + l' → (h ≡ h') × (l ≡ l')
halves_once h l h' l' a b e = (omega arith, omega arith)

half_once : (n x y : ℕ) → x < M → y < M → M - (x + n) % M ≡ M - (y + n) % M → x ≡ y
half_once n x y a b e = omega arith

seal_once : (x y : Sums) → Reduced x → Reduced y → seal x.s x.t ≡ seal y.s y.t → x ≡ y
unfolding seal
seal_once x y a b e = ap₂ (λ (s t : ℕ). record { s = s; t = t }) same_s same_t
  where
    halves : (M - (x.s + low x.s x.t) % M ≡ M - (y.s + low y.s y.t) % M) × (low x.s x.t ≡ low y.s y.t)
    halves = halves_once _ (low x.s x.t) _ (low y.s y.t) (omega arith) (omega arith) e

    same_s : x.s ≡ y.s
    same_s = half_once (low x.s x.t) x.s y.s a.s_fits b.s_fits (halves.0 ∙ ap (λ (l : ℕ). M - (y.s + l) % M) (sym halves.1))

    same_t : x.t ≡ y.t
    same_t = half_once x.s x.t y.t a.t_fits b.t_fits (rw (add_comm x.t x.s, add_comm y.t x.s) (halves.1 ∙ ap (λ (s : ℕ). M - (s + y.t) % M) (sym same_s)))

pub added_once : (b : List ℕ) (x r r' : Sums) → Added b x r → Added b x r' → r ≡ r'
unfolding fletcher
added_once b x r r' p q = seal_once r r' p.fits q.fits (p.onward [] ∙ sym (q.onward []))

-- an object too short, one that is no whole words, and any other

pub verifies_short : (b : List ℕ) → length b < 32 → false ≡ verifies b
unfolding verifies
verifies_short b h = simp (lt-leb 32 (length b) h)

pub verifies_uneven : (b : List ℕ) → 32 ≤ length b → 0 < length b % 4 → false ≡ verifies b
unfolding verifies
verifies_uneven b h k = simp (le-leb 32 (length b) h, ne_eqb (length b % 4) 0 (λ e. absurd (omega arith)))

pub verifies_whole : (b : List ℕ) → 32 ≤ length b → length b % 4 ≡ 0 → eqb (stored_checksum b) (checksum b) ≡ verifies b
unfolding verifies
verifies_whole b h e = simp (le-leb 32 (length b) h, eq-eqb (length b % 4) 0 e)
