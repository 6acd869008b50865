-- The laws of a field's number, over its width.
use mathlib.Core.Path.{◌≡◌, refl, sym, ap, ◌∙◌}
use mathlib.Core.Bool.{Bool, false, ◌&&◌}
use mathlib.Core.List.{List, [], ◌∷◌}
use Prim.Native.Nat.{ℕ, zero, suc, ◌+◌, ◌-◌, ◌*◌, ◌/◌, ◌%◌, ◌^◌, ◌≤◌, ◌<◌}
use native.Mathlib.Nat.{lt_of_lt_of_le, zero-div, add-zero, mul-le-mul_right}
use native.Mathlib.Omega.{arith}
use lib.Bits.{bit_and, and_mask}
use native.Mathlib.Decide.{dec_le}
use lib.Dec.{eqb, ltb, leb}
use lib.ListN.{length, get_or, take, drop, length-drop, drop_of_length-le, get_or-eq_default}
use lib.Seq.{drop-nil, take-nil, take_all}
use lib.Pow.{pow-add, pow_mono, pow_pos, shl_exact}
use borrow.Author.Tests.{le-leb, lt-leb, lt-ltb, le-ltb}
use Rattle.fields.specs.clauses.Numbers.{NumberAt, FieldOf}
use Rattle.fields.specs.Fields.{le, num, field_at, bit, bit_at}
use Rattle.std.specs.Prelude.{Option, Some, None}

num_nil : (w off : ℕ) → num w [] off ≡ 0
unfolding num le
num_nil w off = rw (drop-nil, take-nil)

pub num_none : (b : List ℕ) (off : ℕ) → num 0 b off ≡ 0
unfolding num le
num_none b off = refl

-- one byte more, below the others
num_step : (w : ℕ) (b : List ℕ) (off : ℕ) → num (suc w) b off ≡ num w b (suc off) * 256 + get_or b off 0
unfolding num le
num_step w [] off = rw (num_nil (suc w) off, num_nil w (suc off)) refl
num_step w (x ∷ b) zero = omega arith
num_step w (x ∷ b) (suc off) = num_step w b off

pub num_more : (b : List ℕ) (off w k : ℕ) → 0 < k → k ≤ w → num (w - (k - 1)) b (off + (k - 1)) ≡ num (w - k) b (off + k) * 256 + get_or b (off + (k - 1)) 0
num_more b off w k h l = rw e (num_step (w - k) b (off + (k - 1)) ∙ rw p refl)
  where
    e : w - (k - 1) ≡ suc (w - k)
    e = omega arith

    p : suc (off + (k - 1)) ≡ off + k
    p = omega arith

-- one byte more, above the others
num_above : (k : ℕ) (b : List ℕ) (off : ℕ) → num (suc k) b off ≡ num k b off + get_or b (off + k) 0 * 2 ^ (8 * k)
num_above zero b off = rw (num_step 0 b off, num_none b off, num_none b (suc off), add-zero) (omega arith)
num_above (suc k) b off = rw (num_step (suc k) b off, num_above k b (suc off), num_step k b off, e, p, pow-add 2 (8 * k) 8) (omega arith)
  where
    e : off + suc k ≡ suc off + k
    e = omega arith

    p : 8 * suc k ≡ 8 * k + 8
    p = omega arith

-- a turn of the reader's loop: a byte shifted above the k before it
module _ (b : List ℕ) (off k v x : ℕ) (below : k < 8) (so_far : NumberAt k b off v) (byte : x ≡ get_or b (off + k) 0) (small : x < 256) where
  whole_byte : x * 2 ^ (8 * k) % 2 ^ 64 ≡ x * 2 ^ (8 * k)
  whole_byte = shl_exact {a = x} 8 (8 * k) 64 small (omega arith)

  grown : v + x * 2 ^ (8 * k) < 2 ^ (8 * (k + 1))
  grown = rw (e, pow-add 2 (8 * k) 8) (omega (arith, so_far.fits, mul-le-mul_right (2 ^ (8 * k)) small))
    where
      e : 8 * (k + 1) ≡ 8 * k + 8
      e = omega arith

  pub above_fits : v + x * 2 ^ (8 * k) % 2 ^ 64 < 2 ^ 64
  above_fits = rw whole_byte (lt_of_lt_of_le grown (pow_mono {j = 64} (omega arith)))

  pub byte_above : NumberAt (k + 1) b off (v + x * 2 ^ (8 * k) % 2 ^ 64)
  byte_above = record { is = rw (whole_byte, so_far.is, byte, next) (sym (num_above k b off)); fits = rw whole_byte grown }
    where
      next : k + 1 ≡ suc k
      next = omega arith

pub field_there : (w : ℕ) (b : List ℕ) (off : ℕ) → off + w ≤ length b → field_at w b off ≡ Some (num w b off)
unfolding field_at
field_there w b off h = simp (le-leb _ _ h)

pub field_absent : (w : ℕ) (b : List ℕ) (off : ℕ) → length b < off + w → field_at w b off ≡ None
unfolding field_at
field_absent w b off h = simp (lt-leb _ _ h)

-- bit k read by a shift
pub bit_read : (k x : ℕ) → eqb (bit_and (x / 2 ^ k) 1) 1 ≡ bit k x
bit_read k x = rw (and_mask (x / 2 ^ k) 1)

-- bits of a byte 0, and of one that isn't there
pub bit_zero : (b : List ℕ) (i : ℕ) → get_or b (i / 8) 0 ≡ 0 → bit_at b i ≡ false
unfolding bit_at
bit_zero b i h = rw h (zero_bit (2 ^ (i % 8)))
  where
    zero_bit : (d : ℕ) → eqb (0 / d % 2) 1 ≡ false
    zero_bit d = rw zero-div refl

pub bit_past : (b : List ℕ) (i : ℕ) → length b ≤ i / 8 → bit_at b i ≡ false
bit_past b i h = bit_zero b i (get_or-eq_default b 0 h)

-- what is asked below a limit alone
module _ (i limit : ℕ) (asked : Bool) where
  pub below_limit : i < limit → asked ≡ (ltb i limit && asked)
  below_limit h = rw (lt-ltb i limit h) refl

  pub past_limit : limit ≤ i → false ≡ (ltb i limit && asked)
  past_limit h = rw (le-ltb i limit h) refl

-- room for len bytes from at on, by a difference that can't be negative
pub leb_less : (at len n : ℕ) → at ≤ n → leb len (n - at) ≡ leb (at + len) n
leb_less at len n h = go (dec_le (at + len) n)
  where
    go : Dec (at + len ≤ n) → leb len (n - at) ≡ leb (at + len) n
    go (yes p) = le-leb len (n - at) (omega arith) ∙ sym (le-leb (at + len) n p)
    go (no p) = lt-leb len (n - at) (omega arith) ∙ sym (lt-leb (at + len) n (omega arith))

pub leb_past : (at len n : ℕ) → n < at → leb (at + len) n ≡ false
leb_past at len n h = lt-leb (at + len) n (omega arith)

-- parts that reach the end

-- whatever stands before the end, from either start past it
pub part_past : (b : List ℕ) (m n k len : ℕ) → length b ≤ n → length b ≤ k → take m (drop n b) ≡ take len (drop k b)
part_past b m n k len p q = rw (drop_of_length-le b p, drop_of_length-le b q, take-nil m, take-nil len) refl

-- two lengths that both reach the end
pub part_rest : (b : List ℕ) (start m len : ℕ) → length b - start ≤ m → length b - start ≤ len → take m (drop start b) ≡ take len (drop start b)
part_rest b start m len p q = take_all m (drop start b) (rw length-drop p) ∙ sym (take_all len (drop start b) (rw length-drop q))

-- the number of bytes that aren't all there: those past the end count 0
module _ (w : ℕ) (b : List ℕ) (off : ℕ) where
  pub number_past : length b ≤ off → NumberAt w b off 0
  unfolding num le
  number_past h = record { is = rw (drop_of_length-le b h, take-nil) refl; fits = pow_pos (8 * w) }

  pub number_rest : (r : ℕ) → length b - off ≤ w → NumberAt (length b - off) b off r → NumberAt w b off r
  unfolding num
  number_rest r h n = record { is = n.is ∙ ap le (part_rest b off (length b - off) w (omega arith) h); fits = lt_of_lt_of_le n.fits (pow_mono (omega arith)) }

-- what a reader of a field answers

pub value_of : (w : ℕ) (b : List ℕ) (off r : ℕ) → NumberAt w b off r → off + w ≤ length b → FieldOf w b off (Some r)
value_of w b off r n h = record { is = ap (λ (v : ℕ). Some v) n.is ∙ sym (field_there w b off h); fits = λ v e. same v e n.fits }
  where
    same : (v : ℕ) → Some r ≡ Some v → r < 2 ^ (8 * w) → v < 2 ^ (8 * w)
    same v e h = let same_number : r ≡ v = cc in omega arith

pub absent_of : (w : ℕ) (b : List ℕ) (off : ℕ) → length b < off + w → FieldOf w b off None
absent_of w b off h = record { is = sym (field_absent w b off h); fits = λ v e. nothing v e }
  where
    nothing : (v : ℕ) → None ≡ Some v → v < 2 ^ (8 * w)
    nothing v e = let z : ◌≡◌ {A = ℕ} 0 1 = cc in absurd (omega arith)

-- a field of the bytes that a part is
pub field_in : (w : ℕ) (b part : List ℕ) (off : ℕ) (r : Option ℕ) → b ≡ part → FieldOf w b off r → FieldOf w part off r
field_in w b part off r e h = rw (← e) h
