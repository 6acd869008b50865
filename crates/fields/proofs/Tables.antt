-- A rule about small numbers, shown by computing it for each of them.
use mathlib.Core.Path.{◌≡◌, refl}
use mathlib.Core.Bool.{Bool, true, false, ◌&&◌}
use Prim.Native.Nat.{ℕ, zero, suc, ◌≤◌, ◌<◌}
use native.Mathlib.Decide.{dec_le}
use native.Mathlib.Omega.{arith}
use lib.Dec.{T}

-- a test of each number below n
abbrev pub below : (ℕ → Bool) → ℕ → Bool
below f zero = true
below f (suc n) = f n && below f n

pub at_below : (f : ℕ → Bool) (n i : ℕ) → T (below f n) → i < n → T (f i)
at_below f zero i t h = elim h [ ]
at_below f (suc n) i t h = go (f n) refl t (dec_le n i) (λ u l. at_below f n i u l)
  where
    go : (b : Bool) → f n ≡ b → T (b && below f n) → Dec (n ≤ i) → (T (below f n) → i < n → T (f i)) → T (f i)
    go false e t _ again = elim t [ ]
    go true e t (yes l) again = let k : i ≡ n = omega arith in rw (k, e) tt
    go true e t (no l) again = again t (omega arith)
