-- The lines of the listing: "Problem, overlap and lost lines are the Rust's" (dump.rs, `space_check_container`), those of problems
-- that it doesn't have are document 02's, the others as document 01's sample has them. Each is a format with its figures, in the
-- pieces that it is put together from.
use Rattle.std.specs.Prelude.{ℕ, ◌+◌, List, [], ◌∷◌, ◌++◌, ◌==◌, nat_le, slice_index, slice_index_or}
use Prim.Native.Char.{code}
use Rattle.fields.specs.Choice.{pick}
use Rattle.totals.specs.Totals.{consistent}
use Rattle.listing_text.specs.Text.{ascii, decimal, hex}

-- the kinds of claimants, by their numbers
unfoldable pub kind_names : List (List ℕ)
kind_names =
    []
    ∷ ascii "container superblock"
    ∷ ascii "checkpoint descriptor area"
    ∷ ascii "checkpoint data area"
    ∷ ascii "internal pool"
    ∷ ascii "internal-pool bitmap ring"
    ∷ ascii "object map"
    ∷ ascii "object map node"
    ∷ ascii "volume superblock"
    ∷ ascii "free queue (pending release)"
    ∷ ascii "extent-reference tree node"
    ∷ ascii "snapshot tree node"
    ∷ []

unfoldable pub kind_name : ℕ → List ℕ
kind_name kind = slice_index_or kind_names kind []

-- what stands in a format for a figure: # in decimal, @ in hexadecimal, $ as a kind's name
abbrev pub decimal_sign : ℕ
decimal_sign = code "#"

abbrev pub hex_sign : ℕ
hex_sign = code "@"

abbrev pub name_sign : ℕ
name_sign = code "$"

-- a byte of a format, where the next figure is n
unfoldable pub piece : ℕ → ℕ → List ℕ
piece c n = pick (c == decimal_sign) (decimal n) (pick (c == hex_sign) (hex n) (pick (c == name_sign) (kind_name n) (c ∷ [])))

-- how many figures it takes
unfoldable pub taken : ℕ → ℕ
taken c = pick (c == decimal_sign) 1 (pick (c == hex_sign) 1 (pick (c == name_sign) 1 0))

-- a format with its figures, from the next one on
unfoldable pub filled_from : List ℕ → List ℕ → ℕ → List (List ℕ)
filled_from [] figures next = []
filled_from (c ∷ cs) figures next = piece c (slice_index figures next) ∷ filled_from cs figures (next + taken c)

abbrev pub filled : List ℕ → List ℕ → List (List ℕ)
filled format figures = filled_from format figures 0

-- "`stdin` is fixed text."
abbrev pub title_line : ℕ → List (List ℕ)
title_line xid = filled (ascii "space check  stdin  xid #\n") (xid ∷ [])

abbrev pub pool_line : ℕ → ℕ → ℕ → List (List ℕ)
pool_line used unused problems =
    filled (ascii "internal pool  # blocks in use, # marked but unused, # problems\n") (used ∷ unused ∷ problems ∷ [])

-- the Rust's problems, by their numbers
unfoldable pub problem_formats : List (List ℕ)
problem_formats =
    []
    ∷ ascii "  chunk-info block 0x@ is free in the internal-pool bitmap"
    ∷ ascii "  chunk bitmap 0x@ is free in the internal-pool bitmap"
    ∷ ascii "  internal-pool block 0x@ used twice"
    ∷ ascii "  queued internal-pool block 0x@ is already free"
    ∷ ascii "  internal-pool block 0x@ queued but still in use"
    ∷ []

unfoldable pub problem_format : ℕ → List ℕ
problem_format kind = slice_index_or problem_formats kind []

-- the last of them
abbrev pub last_format : ℕ
last_format = 5

abbrev pub problem_text : ℕ → ℕ → List (List ℕ)
problem_text kind block = filled (problem_format kind) (block ∷ [])

-- document 02: "New problem kinds, here and later, print as `  problem 6 at 0x1f`: kind, then block."
abbrev pub problem_line : ℕ → ℕ → List (List ℕ)
problem_line kind block =
    pick (nat_le kind last_format) (problem_text kind block ++ (ascii "\n" ∷ [])) (filled (ascii "  problem # at 0x@\n") (kind ∷ block ∷ []))

-- "`DOES NOT MATCH` where the counted free blocks and the device's free count differ"
abbrev pub bitmaps_line : ℕ → ℕ → ℕ → List (List ℕ)
bitmaps_line free wrong device =
    filled (ascii "bitmaps    # blocks free; chunks with a wrong free count: #; device free count # ") (free ∷ wrong ∷ device ∷ [])
    ++ (pick (free == device) (ascii "(matches)\n") (ascii "(DOES NOT MATCH)\n") ∷ [])

abbrev pub overlaps_line : ℕ → List (List ℕ)
overlaps_line total = filled (ascii "overlaps   # blocks claimed by two different things\n") (total ∷ [])

-- document 02: "two spaces and `name: count`"
abbrev pub claimant_line : ℕ → ℕ → List (List ℕ)
claimant_line kind count = filled (ascii "  $: #\n") (kind ∷ count ∷ [])

abbrev pub overlap_line : ℕ → ℕ → ℕ → List (List ℕ)
overlap_line block owner claimant = filled (ascii "  block 0x@: $ and $\n") (block ∷ owner ∷ claimant ∷ [])

abbrev pub lost_line : ℕ → List (List ℕ)
lost_line total = filled (ascii "in use but marked free: # blocks\n") (total ∷ [])

abbrev pub lost_kind_line : ℕ → ℕ → ℕ → List (List ℕ)
lost_kind_line kind count first = filled (ascii "  $: # (first at 0x@)\n") (kind ∷ count ∷ first ∷ [])

abbrev pub leaked_line : ℕ → List (List ℕ)
leaked_line total = filled (ascii "allocated but unused (leaked): # blocks\n") (total ∷ [])

-- "Other endings: `result     inconsistent`, or only `refused N`."
abbrev pub result_line : ℕ → List (List ℕ)
result_line verdict =
    ascii "result     "
    ∷ pick (verdict == consistent) (ascii "consistent: nothing in use is marked free, nothing is claimed twice\n") (ascii "inconsistent\n")
    ∷ []

abbrev pub refused_line : ℕ → List (List ℕ)
refused_line number = filled (ascii "refused #\n") (number ∷ [])
