-- A buffer that text is written into, piece after piece: what stands there, and up to where; and the bases of its numbers.
use Rattle.std.specs.Prelude.{◌≡◌, ℕ, ◌+◌, ◌≤◌, List, [], ◌∷◌, length, nat_le}
use Rattle.std.proofs.Math.Seq.{paste}
use Rattle.fields.specs.Choice.{pick}
use Rattle.blocks.specs.clauses.Images.{LentMut}
use Rattle.listing_text.specs.declared.page.Page.{Page}

-- a buffer's bytes, and the place up to which it is written
pub data Written : Type 0 where
  up_to : List ℕ → ℕ → Written

-- a piece after what is written, whole; where it has no room, nothing of it, and the place is the buffer's length + 1, so that what
-- follows has none either
unfoldable pub put : List ℕ → Written → Written
put piece (up_to bytes end) =
    pick (nat_le (end + length piece) (length bytes))
    (up_to (paste bytes end piece (length piece)) (end + length piece))
    (up_to bytes (length bytes + 1))

unfoldable pub put_all : List (List ℕ) → Written → Written
put_all [] w = w
put_all (t ∷ ts) w = put_all ts (put t w)

-- a lent buffer into which pieces were put from a place on, up to the place answered
abbrev pub Puts : LentMut → ℕ → ℕ → List (List ℕ) → Type 0
Puts out at r pieces = up_to out.exit.now r ≡ put_all pieces (up_to out.entry.now at)

-- what stands on a page, and up to where
abbrev pub on : Page → Written
on p = up_to p.out.now p.at

-- a page before and after pieces were put on it: its buffer is the same
pub record Adds (before after : Page) (pieces : List (List ℕ)) : Type 0 where
  pub same : after.out.ghost_name ≡ before.out.ghost_name
  pub written : on after ≡ put_all pieces (on before)

-- the bases that numbers are written in: in a lower one some of 64 bits have more than `most_digits` digits, and for a higher one
-- there are too few glyphs
abbrev pub Base : ℕ → Type 0
Base base = (10 ≤ base) × (base ≤ 16)
