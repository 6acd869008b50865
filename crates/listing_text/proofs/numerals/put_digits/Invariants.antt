use Rattle.std.proofs.Common.{◌≡◌, ◌++◌, length, drop}
use Rattle.listing_text.specs.Text.{digits}
use Rattle.listing_text.proofs.numerals.put_digits.Given as goal

abbrev pub invariant-loop-i : goal.invariant-loop-i
invariant-loop-i l = (length l.out ≡ length l.initial.out) × (digits l.base l.i l.rest ++ drop l.i l.out ≡ digits l.base (length l.initial.out) l.figure)
