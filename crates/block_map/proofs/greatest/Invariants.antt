use mathlib.Core.Path.{◌≡◌}
use lib.ListN.{drop}
use Rattle.block_map.specs.clauses.Rows.{greatest_in, itself}
use Rattle.block_map.proofs.greatest.Given as goal

abbrev pub invariant-loop-byte : goal.invariant-loop-byte
invariant-loop-byte l = greatest_in itself (drop l.byte-index l.row) l.g ≡ greatest_in itself l.row 0
