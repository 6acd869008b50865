-- What stands in a buffer that has room for a number or for the pieces of a text, and what is answered where it has none.
use Rattle.std.proofs.Common.{◌≡◌, ℕ, ◌+◌, ◌^◌, ◌<◌, ◌≤◌, List, [], ◌∷◌, ◌++◌, length, take, drop, sym, refl, ap, ◌∙◌, append_assoc, le_refl, add-zero, zero-add, arith, length-append, drop-drop, le-leb}
use mathlib.Core.List.{flatten}
use native.Mathlib.Decide.{dec_le}
use lib.Seq.{paste, paste-zero, length-paste, take-paste, drop-paste, take-length}
use Rattle.report.specs.declared.Answer.{Answer}
use Rattle.listing_text.specs.Text.{numeral, Shortest}
use Rattle.listing_text.specs.Listing.{answer_lines, listing_of}
use Rattle.listing_text.specs.clauses.Writing.{Written, up_to, put, put_all}
use Rattle.listing_text.proofs.Laws.{glue, put_none}
use Rattle.listing_text.proofs.Digits.{shortest}
use Rattle.listing_text.proofs.Room.{most_bytes, listing_fits}

abbrev bytes_of : Written → List ℕ
bytes_of (up_to bytes end) = bytes

abbrev end_of : Written → ℕ
end_of (up_to bytes end) = end

-- a whole text in a buffer from a place on
abbrev written : List ℕ → ℕ → List ℕ → List ℕ
written out at text = paste out at text (length text)

ends : (at : ℕ) (t u : List ℕ) → at + length (t ++ u) ≡ at + length t + length u
ends at t u = omega (arith, length-append t u)

same : {a b : List ℕ} {m n : ℕ} → a ≡ b → m ≡ n → up_to a m ≡ up_to b n
same p q = λ i. up_to (p i) (q i)

-- two texts, the second after the first, are one
module _ (out : List ℕ) (at : ℕ) (t u : List ℕ) (room : at + length t ≤ length out) where
  front : take (at + length t) (written out at t) ≡ take at out ++ t
  front = take-paste out at t (length t) (omega arith) (le_refl _) ∙ ap (λ (l : List ℕ). take at out ++ l) (take-length t)

  rest : drop (at + length t + length u) (written out at t) ≡ drop (at + length t + length u) out
  rest =
      sym (drop-drop (length u) (at + length t) (written out at t))
      ∙ ap (drop (length u)) (drop-paste out at t (length t) (omega arith) (le_refl _))
      ∙ drop-drop (length u) (at + length t) out

  written_twice : written (written out at t) (at + length t) u ≡ written out at (t ++ u)
  written_twice =
      glue front (take-length u) rest
      ∙ ap (λ (l : List ℕ). l ++ drop (at + length t + length u) out) (append_assoc (take at out) t u)
      ∙ sym (glue {a = take at out} refl (take-length (t ++ u)) (ap (λ (n : ℕ). drop n out) (ends at t u)))

put_room : (t out : List ℕ) (at : ℕ) → at + length t ≤ length out → put t (up_to out at) ≡ up_to (written out at t) (at + length t)
unfolding put
put_room t out at room = simp (le-leb _ _ room)

all_written : (ts : List (List ℕ)) (out : List ℕ) (at : ℕ) → at + length (flatten ts) ≤ length out
    → put_all ts (up_to out at) ≡ up_to (written out at (flatten ts)) (at + length (flatten ts))
unfolding put_all flatten
all_written [] out at room = same (paste-zero out at []) (sym (add-zero at))
all_written (t ∷ ts) out at room =
    let fits : at + length t ≤ length out = omega (arith, ends at t (flatten ts)) in
    let left : at + length t + length (flatten ts) ≤ length (written out at t) = omega (arith, ends at t (flatten ts), length-paste out at t (length t) fits (le_refl _)) in
    ap (put_all ts) (put_room t out at fits)
    ∙ all_written ts (written out at t) (at + length t) left
    ∙ same (written_twice out at t (flatten ts) fits) (sym (ends at t (flatten ts)))

-- document 02, T-04, of what `put_numeral` leaves in a buffer, for every number of 64 bits: "given room, exactly its digits in their
-- shortest form stand there and no other byte of the line changes"
module _ (base n : ℕ) (low : 10 ≤ base) (small : n < 2 ^ 64) (out after : List ℕ) (at r : ℕ) (e : up_to after r ≡ put (numeral base n) (up_to out at)) where
  pub numeral_whole : at + length (numeral base n) ≤ length out
      → Shortest base n (numeral base n) × (r ≡ at + length (numeral base n)) × (after ≡ take at out ++ numeral base n ++ drop r out)
  numeral_whole room =
      let all : up_to after r ≡ up_to (written out at (numeral base n)) (at + length (numeral base n)) = e ∙ put_room (numeral base n) out at room in
      let end : r ≡ at + length (numeral base n) = ap end_of all in
      (shortest base n low small, end, ap bytes_of all ∙ glue {a = take at out} refl (take-length (numeral base n)) (ap (λ (m : ℕ). drop m out) (sym end)))

  -- without room nothing changes, and the answer is no place in the buffer
  pub numeral_cut : length out < at + length (numeral base n) → (after ≡ out) × (r ≡ length out + 1)
  numeral_cut short =
      let none : up_to after r ≡ up_to out (length out + 1) = e ∙ sym (put_none (numeral base n) out at (length out + 1) short refl) in
      (ap bytes_of none, ap end_of none)

-- once a piece had no room, none that follows has
past : (t out : List ℕ) → put t (up_to out (length out + 1)) ≡ up_to out (length out + 1)
past t out = sym (put_none t out (length out + 1) (length out + 1) (omega arith) refl)

all_past : (ts : List (List ℕ)) (out : List ℕ) → put_all ts (up_to out (length out + 1)) ≡ up_to out (length out + 1)
unfolding put_all
all_past [] out = refl
all_past (t ∷ ts) out = ap (put_all ts) (past t out) ∙ all_past ts out

Short : List (List ℕ) → Type 0
Short ts = (out : List ℕ) (at : ℕ) → at ≤ length out → length out < at + length (flatten ts) → end_of (put_all ts (up_to out at)) ≡ length out + 1

-- the first piece has room, or has none
one_short : (t : List ℕ) (ts : List (List ℕ)) (out : List ℕ) (at : ℕ) → Short ts → length out < at + length (t ++ flatten ts) → Dec (at + length t ≤ length out)
    → end_of (put_all ts (put t (up_to out at))) ≡ length out + 1
unfolding Short
one_short t ts out at next short (yes room) =
    let long : length (written out at t) ≡ length out = length-paste out at t (length t) room (le_refl _) in
    let less : length (written out at t) < at + length t + length (flatten ts) = omega (arith, ends at t (flatten ts)) in
    ap (λ (w : Written). end_of (put_all ts w)) (put_room t out at room)
    ∙ next (written out at t) (at + length t) (omega arith) less
    ∙ ap (λ (n : ℕ). n + 1) long
one_short t ts out at next short (no none) =
    ap (λ (w : Written). end_of (put_all ts w)) (sym (put_none t out at (length out + 1) (omega arith) refl)) ∙ ap end_of (all_past ts out)

all_short : (ts : List (List ℕ)) → Short ts
unfolding Short put_all flatten
all_short [] out at here short = absurd (omega arith)
all_short (t ∷ ts) out at here short = one_short t ts out at (all_short ts) short (dec_le (at + length t) (length out))

-- a listing in a buffer
module _ (a : Answer) (out after : List ℕ) (r : ℕ) (e : up_to after r ≡ put_all (answer_lines a.ending a.report) (up_to out 0)) where
  -- with room: the listing, its length, and behind it what stood there
  pub listing_whole : length (listing_of a) ≤ length out → (r ≡ length (listing_of a)) × (after ≡ listing_of a ++ drop r out)
  unfolding listing_of
  listing_whole room =
      let all : up_to after r ≡ up_to (written out 0 (listing_of a)) (0 + length (listing_of a)) = e ∙ all_written (answer_lines a.ending a.report) out 0 (omega arith) in
      let end : r ≡ length (listing_of a) = ap end_of all ∙ zero-add _ in
      (end, ap bytes_of all ∙ glue {a = []} refl (take-length (listing_of a)) (ap (λ (n : ℕ). drop n out) (zero-add _ ∙ sym end)))

  -- so in every buffer of `most_bytes`
  pub listing_there : most_bytes ≤ length out → (r ≡ length (listing_of a)) × (after ≡ listing_of a ++ drop r out)
  listing_there h = listing_whole (omega (arith, listing_fits a))

  -- without room: the buffer's length + 1
  pub listing_cut : length out < length (listing_of a) → r ≡ length out + 1
  unfolding listing_of Short
  listing_cut short = ap end_of e ∙ all_short (answer_lines a.ending a.report) out 0 (omega arith) (omega arith)

-- a number in a base of this value
pub put_based : (base b n : ℕ) (x w : Written) → x ≡ put (numeral base n) w → base ≡ b → x ≡ put (numeral b n) w
put_based base b n x w p e = rw (← e) p
