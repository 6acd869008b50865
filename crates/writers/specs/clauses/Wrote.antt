-- What a writer leaves: bytes in place of others.
use Rattle.std.specs.Prelude.{◌≡◌, List, ◌++◌, ℕ, ◌+◌, ◌≤◌, length, take, drop}

-- l with x in place of what stood from at on
unfoldable pub written : List ℕ → ℕ → List ℕ → List ℕ
written l at x = take at l ++ (x ++ drop (at + length x) l)

-- x was put in its place, there was room for it, and r is the place after it
pub record Wrote (x : List ℕ) (at : ℕ) (before after : List ℕ) (r : ℕ) : Type 0 where
  pub room : at + length x ≤ length before
  pub is : after ≡ written before at x
  pub next : r ≡ at + length x
