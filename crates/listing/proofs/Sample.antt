-- Document 01's listing, computed: the text that the program prints for its container of 16 blocks.
use mathlib.Core.Path.{◌≡◌, refl, ap, ◌∙◌}
use mathlib.Core.List.{List, ◌++◌}
use Prim.Native.Nat.{ℕ}
use lib.ListN.{replicate}
use Rattle.report.specs.Report.{reported}
use Rattle.space_check.specs.Check.{check}
use Rattle.samples.proofs.Computing.{computed}
use Rattle.samples.proofs.Container.{listing}
use Rattle.samples.proofs.Listing.{listed}
use Rattle.listing_text.specs.Text.{ascii}
use Rattle.listing_text.specs.Listing.{listing_of}
use Rattle.listing_text.proofs.Samples.{computed as spelt}
use Rattle.listing.specs.Printed.{map_bytes, printed}

checked : (check listing (replicate map_bytes 0)).answer ≡ reported listed
unfolding computed listing
checked = refl

text : List ℕ
text =
    ascii "space check  stdin  xid 7\n"
    ++ ascii "internal pool  2 blocks in use, 0 marked but unused, 0 problems\n"
    ++ ascii "bitmaps    6 blocks free; chunks with a wrong free count: 0; device free count 6 (matches)\n"
    ++ ascii "overlaps   0 blocks claimed by two different things\n"
    ++ ascii "in use but marked free: 0 blocks\n"
    ++ ascii "allocated but unused (leaked): 0 blocks\n"
    ++ ascii "result     consistent: nothing in use is marked free, nothing is claimed twice\n"

listed_text : listing_of (reported listed) ≡ text
unfolding spelt text
listed_text = refl

sample : printed listing ≡ text
sample = ap listing_of checked ∙ listed_text
