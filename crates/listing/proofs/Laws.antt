-- A buffer of `most_bytes` after the listing of a pass's answer was put into it.
use mathlib.Core.Path.{◌≡◌, sym, ap, ◌∙◌}
use mathlib.Core.List.{List, ◌++◌}
use Prim.Native.Nat.{ℕ, ◌≤◌}
use native.Mathlib.Omega.{arith}
use lib.ListN.{length, drop, replicate, length-append}
use lib.Seq.{length-take-le}
use Rattle.report.specs.declared.Answer.{Answer}
use Rattle.space_check.specs.Check.{check, Result}
use Rattle.listing_text.specs.Listing.{answer_lines, listing_of}
use Rattle.listing_text.specs.clauses.Writing.{up_to, put_all}
use Rattle.listing_text.proofs.Room.{most_bytes}
use Rattle.listing_text.proofs.Buffer.{listing_there}
use Rattle.listing.specs.Printed.{IsPrefixLen, map_bytes, printed}

counts : (text rest after : List ℕ) (r : ℕ) → r ≡ length text → after ≡ text ++ rest → IsPrefixLen r after
counts text rest after r e p =
    let inside : r ≤ length after = rw p (omega (arith, length-append text rest)) in
    (inside, sym (length-take-le r after inside))

module _ (image text after map : List ℕ) (a : Answer) (r : ℕ) (checked : record { answer = a; map = map } ≡ check image (replicate map_bytes 0)) where
  pub printed_there : up_to after r ≡ put_all (answer_lines a.ending a.report) (up_to text 0) → most_bytes ≤ length text
      → ((r ≡ length (printed image)) × (after ≡ printed image ++ drop r text)) × IsPrefixLen r after
  printed_there e room =
      let answered : listing_of a ≡ printed image = ap (λ (x : Result). listing_of x.answer) checked in
      let there : (r ≡ length (listing_of a)) × (after ≡ listing_of a ++ drop r text) = listing_there a text after r e room in
      ((there.0 ∙ ap length answered, there.1 ∙ ap (λ (t : List ℕ). t ++ drop r text) answered), counts (listing_of a) (drop r text) after r there.0 there.1)
