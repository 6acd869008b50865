-- The laws of bytes in place of others.
use mathlib.Core.Path.{◌≡◌, refl, sym, ap, ◌∙◌}
use mathlib.Core.List.{List, [], ◌∷◌, ◌++◌, append_assoc, append-nil}
use Prim.Native.Nat.{ℕ, zero, suc, ◌+◌, ◌-◌, ◌*◌, ◌/◌, ◌%◌, ◌^◌, ◌≤◌, ◌<◌}
use native.Mathlib.Nat.{pow-zero, pow-suc}
use native.Mathlib.Omega.{arith}
use lib.ListN.{length, take, drop, set, get_or, replicate, length-append, length-take, length-drop, length-set, length-replicate, replicate-append-replicate, take-append-drop, drop_of_length-le, get_or-eq_default}
use native.Mathlib.Decide.{dec_lt}
use lib.Seq.{drop-cons, take_all, get_or-take, get_or-drop, drop-drop, drop-length, drop-set-lt, take-suc-set, take-take, take-add, take-append-le, drop-append-le, take_at, drop_at, length-take-le}
use borrow.Rule.Slice.PartMut.{put_mid}
use Rattle.fields.specs.Fields.{le, num}
use Rattle.writers.specs.Bytes.{le_bytes}
use Rattle.writers.specs.clauses.Wrote.{written, Wrote}

glue : {a a' c c' : List ℕ} (b : List ℕ) → a ≡ a' → c ≡ c' → a ++ (b ++ c) ≡ a' ++ (b ++ c')
glue b p q = λ i. p i ++ (b ++ q i)

pub length_bytes : (w n : ℕ) → length (le_bytes w n) ≡ w
unfolding le_bytes
length_bytes zero n = refl
length_bytes (suc w) n = omega (arith, length_bytes w (n / 256))

pub length_zeros : (n : ℕ) → length (replicate {A = ℕ} n 0) ≡ n
length_zeros n = length-replicate n 0

pub le_of_le_bytes : (w n : ℕ) → n < 256 ^ w → le (le_bytes w n) ≡ n
unfolding le le_bytes
le_of_le_bytes zero n h = let l : n < 1 = rw (pow-zero 256) at h in omega arith
le_of_le_bytes (suc w) n h =
    let l : n < 256 ^ w * 256 = rw (pow-suc 256 w) at h in
    let below : n / 256 < 256 ^ w = omega arith in
    omega (arith, le_of_le_bytes w (n / 256) below)

-- bytes are those of their number
bytes_of : (w : ℕ) (b : List ℕ) → ((i : ℕ) → get_or b i 0 < 256) → length b ≡ w → le_bytes w (le b) ≡ b
unfolding le le_bytes
bytes_of zero [] small e = refl
bytes_of zero (x ∷ b) small e = absurd (omega arith)
bytes_of (suc w) [] small e = absurd (omega arith)
bytes_of (suc w) (x ∷ b) small e = λ i. low i ∷ (ap (le_bytes w) high ∙ bytes_of w b (λ j. small (suc j)) (omega arith)) i
  where
    low : (x + 256 * le b) % 256 ≡ x
    low = omega (arith, small 0)

    high : (x + 256 * le b) / 256 ≡ le b
    high = omega (arith, small 0)

-- a word of some bytes, as its number has it
pub word_of : (b : List ℕ) → ((i : ℕ) → get_or b i 0 < 256) → (at : ℕ) → at + 8 ≤ length b → (x : ℕ) → x ≡ num 8 b at → le_bytes 8 x ≡ take 8 (drop at b)
unfolding num
word_of b small at room x p = ap (le_bytes 8) p ∙ bytes_of 8 (take 8 (drop at b)) each whole
  where
    long : length (drop at b) ≡ length b - at
    long = length-drop at b

    whole : length (take 8 (drop at b)) ≡ 8
    whole = length-take-le 8 (drop at b) (omega (arith, long))

    each : (i : ℕ) → get_or (take 8 (drop at b)) i 0 < 256
    each i = go (dec_lt i 8)
      where
        go : Dec (i < 8) → get_or (take 8 (drop at b)) i 0 < 256
        go (yes h) = rw (get_or-take 8 (drop at b) i 0 h, get_or-drop at b i 0) (small (at + i))
        go (no h) = rw (get_or-eq_default (take 8 (drop at b)) 0 {n = i} (omega (arith, whole))) (omega arith)

pub pair_of : (b : List ℕ) → ((i : ℕ) → get_or b i 0 < 256) → length b ≡ 16 → (x y : ℕ) → x ≡ num 8 b 0 → y ≡ num 8 b 8 → le_bytes 8 x ++ le_bytes 8 y ≡ b
unfolding num
pair_of b small e x y p q =
    (λ i. (ap (le_bytes 8) p ∙ bytes_of 8 (take 8 b) first (length-take-le 8 b (omega arith))) i ++ (ap (le_bytes 8) q ∙ ap (λ (t : List ℕ). le_bytes 8 (le t)) (take_all 8 (drop 8 b) (omega (arith, long))) ∙ bytes_of 8 (drop 8 b) second long) i)
    ∙ take-append-drop 8 b
  where
    long : length (drop 8 b) ≡ 8
    long = rw length-drop (omega arith)

    first : (i : ℕ) → get_or (take 8 b) i 0 < 256
    first i = go (dec_lt i 8)
      where
        go : Dec (i < 8) → get_or (take 8 b) i 0 < 256
        go (yes h) = rw (get_or-take 8 b i 0 h) (small i)
        go (no h) = rw (get_or-eq_default (take 8 b) 0 {n = i} (omega (arith, length-take-le 8 b (omega arith)))) (omega arith)

    second : (i : ℕ) → get_or (drop 8 b) i 0 < 256
    second i = rw (get_or-drop 8 b i 0) (small (8 + i))

pub written_none : (l : List ℕ) (at : ℕ) → written l at [] ≡ l
unfolding written
written_none l at = ap (λ (n : ℕ). take at l ++ drop n l) zero_more ∙ take-append-drop at l
  where
    zero_more : at + 0 ≡ at
    zero_more = omega arith

pub length_written : (l x : List ℕ) (at : ℕ) → at + length x ≤ length l → length (written l at x) ≡ length l
unfolding written
length_written l x at h = simp (length-append, length-take, length-drop) (omega arith)

-- one byte, and then the others
pub written_first : (l xs : List ℕ) (at x : ℕ) → at < length l → written (set l at x) (at + 1) xs ≡ written l at (x ∷ xs)
unfolding written
written_first l xs at x h =
    rw one
    (glue xs (take-suc-set l at x h) (drop-set-lt (suc at + length xs) l at x (omega arith) ∙ ap (λ (n : ℕ). drop n l) after)
    ∙ append_assoc (take at l) (x ∷ []) (xs ++ drop (at + suc (length xs)) l))
  where
    one : at + 1 ≡ suc at
    one = omega arith

    after : suc at + length xs ≡ at + suc (length xs)
    after = omega arith

-- two pieces, the second after the first, are one: written from the left end, or from the right
module _ (l : List ℕ) (at : ℕ) (x y : List ℕ) where
  past : at + length x + length y ≡ at + length (x ++ y)
  past = omega (arith, length-append x y)

  pub written_twice : at ≤ length l → written (written l at x) (at + length x) y ≡ written l at (x ++ y)
  unfolding written
  written_twice h =
      glue y front rest
      ∙ append_assoc (take at l) x (y ++ drop (at + length (x ++ y)) l)
      ∙ ap (λ (t : List ℕ). take at l ++ t) (sym (append_assoc x y (drop (at + length (x ++ y)) l)))
    where
      long : length (take at l ++ x) ≡ at + length x
      long = simp length-append (omega (arith, length-take-le at l h))

      front : take (at + length x) (take at l ++ (x ++ drop (at + length x) l)) ≡ take at l ++ x
      front = ap (take (at + length x)) (sym (append_assoc (take at l) x (drop (at + length x) l))) ∙ take_at (take at l ++ x) _ (at + length x) long

      rest : drop (at + length x + length y) (take at l ++ (x ++ drop (at + length x) l)) ≡ drop (at + length (x ++ y)) l
      rest =
          sym (drop-drop (length y) (at + length x) (take at l ++ (x ++ drop (at + length x) l)))
          ∙ ap (λ (t : List ℕ). drop (length y) (drop (at + length x) t)) (sym (append_assoc (take at l) x (drop (at + length x) l)))
          ∙ ap (drop (length y)) (drop_at (take at l ++ x) (drop (at + length x) l) (at + length x) long)
          ∙ drop-drop (length y) (at + length x) l
          ∙ ap (λ (n : ℕ). drop n l) past

  pub written_before : at + length x ≤ length l → written (written l (at + length x) y) at x ≡ written l at (x ++ y)
  unfolding written
  written_before h =
      glue x front rest
      ∙ ap (λ (t : List ℕ). take at l ++ t) (sym (append_assoc x y (drop (at + length (x ++ y)) l)))
    where
      long : length (take (at + length x) l) ≡ at + length x
      long = length-take-le (at + length x) l h

      front : take at (take (at + length x) l ++ (y ++ drop (at + length x + length y) l)) ≡ take at l
      front = take-append-le at (take (at + length x) l) _ (omega (arith, long)) ∙ take-take at (at + length x) l (omega arith)

      rest : drop (at + length x) (take (at + length x) l ++ (y ++ drop (at + length x + length y) l)) ≡ y ++ drop (at + length (x ++ y)) l
      rest = drop_at (take (at + length x) l) _ (at + length x) long ∙ ap (λ (n : ℕ). y ++ drop n l) past

-- what stands beside them stays
take_written : (l z : List ℕ) (a b : ℕ) → a ≤ b → b ≤ length l → take a (written l b z) ≡ take a l
unfolding written
take_written l z a b h k = take-append-le a (take b l) _ (omega (arith, length-take-le b l k)) ∙ take-take a b l h

drop_written : (l z : List ℕ) (n b : ℕ) → b + length z ≤ n → b ≤ length l → drop n (written l b z) ≡ drop n l
unfolding written
drop_written l z n b h k =
    ap (λ (m : ℕ). drop m (written l b z)) further
    ∙ sym (drop-drop (n - (b + length z)) (b + length z) (written l b z))
    ∙ ap (drop (n - (b + length z))) behind
    ∙ drop-drop (n - (b + length z)) (b + length z) l
    ∙ ap (λ (m : ℕ). drop m l) (sym further)
  where
    further : n ≡ b + length z + (n - (b + length z))
    further = omega arith

    behind : drop (b + length z) (written l b z) ≡ drop (b + length z) l
    behind =
        ap (drop (b + length z)) (sym (append_assoc (take b l) z (drop (b + length z) l)))
        ∙ drop_at (take b l ++ z) _ (b + length z) (simp length-append (omega (arith, length-take-le b l k)))

-- bytes put over others
pub written_over : (l x z : List ℕ) (at b : ℕ) → at ≤ b → b + length z ≤ at + length x → b ≤ length l → written (written l b z) at x ≡ written l at x
unfolding written
written_over l x z at b h k m = glue x (take_written l z at b h m) (drop_written l z (at + length x) b k m)

-- two pieces that don't meet, in either order
module _ (l x y : List ℕ) (a b : ℕ) (h : a + length x ≤ b) (k : b + length y ≤ length l) where
  -- what stands between them
  abbrev between : List ℕ
  between = take (b - (a + length x)) (drop (a + length x) l)

  reach : a + length x + (b - (a + length x)) ≡ b
  reach = omega arith

  behind : drop (b - (a + length x)) (drop (a + length x) l) ≡ drop b l
  behind = drop-drop (b - (a + length x)) (a + length x) l ∙ ap (λ (n : ℕ). drop n l) reach

  up_to : take b (written l a x) ≡ take a l ++ (x ++ between)
  unfolding written
  up_to =
      ap (take b) regroup
      ∙ take_at ((take a l ++ (x ++ between))) (drop b l) b long
    where
      rest : drop (a + length x) l ≡ between ++ drop b l
      rest = sym (take-append-drop (b - (a + length x)) (drop (a + length x) l)) ∙ ap (λ (t : List ℕ). between ++ t) behind

      regroup : take a l ++ (x ++ drop (a + length x) l) ≡ (take a l ++ (x ++ between)) ++ drop b l
      regroup =
          ap (λ (t : List ℕ). take a l ++ (x ++ t)) rest
          ∙ ap (λ (t : List ℕ). take a l ++ t) (sym (append_assoc x between (drop b l)))
          ∙ sym (append_assoc (take a l) (x ++ between) (drop b l))

      long : length (take a l ++ (x ++ between)) ≡ b
      long = simp (length-append, length-take, length-drop) (omega arith)

  from : drop (a + length x) (written l b y) ≡ between ++ (y ++ drop (b + length y) l)
  unfolding written
  from =
      drop-append-le (a + length x) (take b l) _ (omega (arith, length-take-le b l (omega arith)))
      ∙ ap (λ (t : List ℕ). t ++ (y ++ drop (b + length y) l)) cut
    where
      whole : take b l ≡ take (a + length x) l ++ between
      whole = ap (λ (n : ℕ). take n l) (sym reach) ∙ take-add (a + length x) (b - (a + length x)) l

      cut : drop (a + length x) (take b l) ≡ between
      cut = ap (drop (a + length x)) whole ∙ drop_at (take (a + length x) l) between (a + length x) (length-take-le (a + length x) l (omega arith))

  pub written_apart : written (written l a x) b y ≡ written (written l b y) a x
  unfolding written
  written_apart =
      glue y up_to (drop_written l x (b + length y) a (omega arith) (omega arith))
      ∙ append_assoc (take a l) (x ++ between) (y ++ drop (b + length y) l)
      ∙ ap (λ (t : List ℕ). take a l ++ t) (append_assoc x between (y ++ drop (b + length y) l))
      ∙ sym (glue x (take_written l y a b (omega arith) (omega arith)) from)

-- a last word of zeros, most of which a piece is put over
pub written_padded : (l x : List ℕ) (at end : ℕ) → at + length x ≤ end → end ≤ at + length x + 8 → at + 8 ≤ end → end ≤ length l
    → written (written l (end - 8) (le_bytes 8 0)) at x ≡ written l at (x ++ replicate (end - (at + length x)) 0)
unfolding le_bytes
written_padded l x at end h k m room =
    ap (λ (z : List ℕ). written (written l (end - 8) z) at x) zeros
    ∙ ap (λ (t : List ℕ). written t at x) (sym (written_before l (end - 8) (replicate (8 - over) 0) (replicate over 0) (omega (arith, covered))))
    ∙ written_over (written l (end - 8 + length (replicate {A = ℕ} (8 - over) 0)) (replicate over 0)) x (replicate (8 - over) 0) at (end - 8) (omega arith) (omega (arith, covered)) (omega (arith, covered, same))
    ∙ ap (λ (n : ℕ). written (written l n (replicate over 0)) at x) seam
    ∙ written_before l at x (replicate over 0) (omega arith)
  where
    over : ℕ
    over = end - (at + length x)

    covered : length (replicate {A = ℕ} (8 - over) 0) ≡ 8 - over
    covered = length_zeros (8 - over)

    zeros : replicate {A = ℕ} 8 0 ≡ replicate (8 - over) 0 ++ replicate over 0
    zeros = ap (λ (n : ℕ). replicate n 0) split ∙ sym (replicate-append-replicate (8 - over) over 0)
      where
        split : 8 ≡ 8 - over + over
        split = omega arith

    seam : end - 8 + length (replicate {A = ℕ} (8 - over) 0) ≡ at + length x
    seam = omega (arith, covered)

    same : length (written l (end - 8 + length (replicate {A = ℕ} (8 - over) 0)) (replicate over 0)) ≡ length l
    same = length_written l (replicate over 0) _ (omega (arith, covered, length_zeros over))

pub wrote_length : {x a b : List ℕ} {at r : ℕ} → Wrote x at a b r → length b ≡ length a
wrote_length {x} {a} {b} {at} w = ap length w.is ∙ length_written a x at w.room

-- a part that is written whole
pub wrote_part : {x y l : List ℕ} (at n r : ℕ) → at + length x ≤ length l → y ≡ x → n ≡ length x → r ≡ at + length x → Wrote x at l (put_mid at n l y) r
unfolding written
wrote_part {x} {y} {l} at n r h e long next = record { room = h; is = λ i. take at l ++ (e i ++ rest i); next = next }
  where
    rest : drop n (drop at l) ≡ drop (at + length x) l
    rest = drop-drop n at l ∙ ap (λ (k : ℕ). drop (at + k) l) long

pub part_length : (l : List ℕ) (at n : ℕ) → at + n ≤ length l → length (take (at + n - at) (drop at l)) ≡ n
part_length l at n h = simp (length-take, length-drop) (omega arith)

-- one writer after another
pub wrote_then : {x y a b c : List ℕ} {at r s : ℕ} → Wrote x at a b r → Wrote y r b c s → Wrote (x ++ y) at a c s
wrote_then {x} {y} {a} {b} {c} {at} {r} {s} v w =
    record {
      room = omega (arith, length-append x y, w.room, v.next, wrote_length v);
      is =
          w.is
          ∙ ap (λ (l : List ℕ). written l r y) v.is
          ∙ ap (λ (n : ℕ). written (written a at x) n y) v.next
          ∙ written_twice a at x y (omega (arith, v.room));
      next = omega (arith, length-append x y, v.next, w.next);
    }

-- what is left to be put, from the place reached on, comes to the whole
pub record Writing (xs : List ℕ) (end : ℕ) (l x : List ℕ) (at : ℕ) (first : List ℕ) : Type 0 where
  pub same : length l ≡ length first
  pub long : end + length xs ≡ at + length x
  pub left : written l end xs ≡ written first at x

module _ (x : List ℕ) (at : ℕ) (first : List ℕ) where
  pub writing_from : (end : ℕ) → end ≡ at → Writing x end first x at first
  writing_from end e = record { same = refl; long = omega arith; left = ap (λ (n : ℕ). written first n x) e }

  -- one byte, or one piece, more
  pub writing_more : (ys xs l : List ℕ) (k y : ℕ) → Writing ys (at + k) l x at first → ys ≡ y ∷ xs → at + length x ≤ length first → Writing xs (at + (k + 1)) (set l (at + k) y) x at first
  writing_more ys xs l k y w e room =
      let long : at + k + length (y ∷ xs) ≡ at + length x = rw e at w.long in
      let left : written l (at + k) (y ∷ xs) ≡ written first at x = rw e at w.left in
      record {
        same = simp length-set w.same;
        long = omega arith;
        left = ap (λ (n : ℕ). written (set l (at + k) y) n xs) (next at k) ∙ written_first l xs (at + k) y (omega (arith, w.same)) ∙ left;
      }
    where
      next : (m n : ℕ) → m + (n + 1) ≡ m + n + 1
      next m n = omega arith

  pub writing_next : (ys y xs l after : List ℕ) (end r : ℕ) → Writing ys end l x at first → ys ≡ y ++ xs → Wrote y end l after r → Writing xs r after x at first
  writing_next ys y xs l after end r w e v =
      let long : end + length (y ++ xs) ≡ at + length x = rw e at w.long in
      let left : written l end (y ++ xs) ≡ written first at x = rw e at w.left in
      record {
        same = wrote_length v ∙ w.same;
        long = omega (arith, length-append y xs, v.next);
        left =
            ap (λ (t : List ℕ). written t r xs) v.is
            ∙ ap (λ (n : ℕ). written (written l end y) n xs) v.next
            ∙ written_twice l end y xs (omega (arith, v.room))
            ∙ left;
      }

  pub writing_done : (xs l : List ℕ) (end r : ℕ) → Writing xs end l x at first → xs ≡ [] → at + length x ≤ length first → r ≡ at + length x → Wrote x at first l r
  writing_done xs l end r w e room next = record { room = room; is = sym (written_none l end) ∙ (rw e at w.left); next = next }

-- one byte more of a number
pub byte_more : (bytes whole : List ℕ) (k n : ℕ) → k < length bytes → take k bytes ++ le_bytes (length bytes - k) n ≡ whole
    → take (k + 1) (set bytes k (n % 256)) ++ le_bytes (length (set bytes k (n % 256)) - (k + 1)) (n / 256) ≡ whole
unfolding le_bytes
byte_more bytes whole k n h e =
    rw (next, length-set)
    (λ i. take-suc-set bytes k (n % 256) h i ++ le_bytes (length bytes - suc k) (n / 256))
    ∙ append_assoc (take k bytes) (n % 256 ∷ []) (le_bytes (length bytes - suc k) (n / 256))
    ∙ ap (λ (w : ℕ). take k bytes ++ le_bytes w n) (sym left)
    ∙ e
  where
    next : k + 1 ≡ suc k
    next = omega arith

    left : length bytes - k ≡ suc (length bytes - suc k)
    left = omega arith

pub bytes_done : (bytes whole : List ℕ) (k n : ℕ) → length bytes ≤ k → take k bytes ++ le_bytes (length bytes - k) n ≡ whole → bytes ≡ whole
unfolding le_bytes
bytes_done bytes whole k n h e = sym (ap (λ (w : ℕ). take k bytes ++ le_bytes w n) none ∙ append-nil (take k bytes) ∙ take_all k bytes h) ∙ e
  where
    none : length bytes - k ≡ 0
    none = omega arith

-- bytes up to the end
pub written_end : (l x : List ℕ) (at : ℕ) → at + length x ≡ length l → drop at (written l at x) ≡ x
unfolding written
written_end l x at h =
    drop_at (take at l) _ at (length-take-le at l (omega arith))
    ∙ ap (λ (n : ℕ). x ++ drop n l) h
    ∙ ap (λ (t : List ℕ). x ++ t) (drop-length l)
    ∙ append-nil x

-- what is left of some bytes
pub part_more : (x : List ℕ) (k : ℕ) → k < length x → drop k x ≡ get_or x k 0 ∷ drop (k + 1) x
part_more x k h = rw e (drop-cons x k 0 h)
  where
    e : k + 1 ≡ suc k
    e = omega arith

pub part_none : (x : List ℕ) (k : ℕ) → length x ≤ k → drop k x ≡ []
part_none x k h = drop_of_length-le x h

pub words_more : (x : List ℕ) (k : ℕ) → drop (k * 8) x ≡ take 8 (drop (k * 8) x) ++ drop ((k + 1) * 8) x
words_more x k = sym (take-append-drop 8 (drop (k * 8) x)) ∙ ap (λ (l : List ℕ). take 8 (drop (k * 8) x) ++ l) (drop-drop 8 (k * 8) x ∙ ap (λ (n : ℕ). drop n x) e)
  where
    e : k * 8 + 8 ≡ (k + 1) * 8
    e = omega arith

pub words_room : (x first l : List ℕ) (at end k : ℕ) → Writing (drop (k * 8) x) end l x at first → at + length x ≤ length first → k < length x / 8 → end + 8 ≤ length l
words_room x first l at end k w room some = omega (arith, w.same, w.long, length-drop (k * 8) x)
