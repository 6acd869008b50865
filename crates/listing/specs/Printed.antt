-- What the program prints for the bytes that it read.
use Rattle.std.specs.Prelude.{List, ◌++◌, ◌≡◌, ℕ, ◌≤◌, length, take, drop, replicate}
use Rattle.blocks.specs.clauses.Images.{Lent, bytes, LentMut, bytes_lent}
use Rattle.space_check.specs.Check.{check}
use Rattle.listing_text.specs.Listing.{listing_of}

-- its block map: 65,536 bytes are at most 16 blocks
abbrev pub map_bytes : ℕ
map_bytes = 16

abbrev pub printed : List ℕ → List ℕ
printed image = listing_of (check image (replicate map_bytes 0)).answer

-- a buffer that begins with what is printed for an image, r bytes, and is else as it was
abbrev pub Prints : LentMut → ℕ → Lent → Type 0
Prints text r image = (r ≡ length (printed (bytes image))) × (text.exit.now ≡ printed (bytes image) ++ drop r (bytes_lent text))

-- n bytes can be cut from the front of a list, and the cut has n; that it has is said besides, so that `main` needs no proof of it
abbrev pub IsPrefixLen : ℕ → List ℕ → Type 0
IsPrefixLen n xs = (n ≤ length xs) × (n ≡ length (take n xs))
