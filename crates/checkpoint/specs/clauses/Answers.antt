-- The outcomes that the code's answers stand for.
use Rattle.std.specs.Prelude.{◌≡◌, List, ℕ, ◌-◌, Result}
use Rattle.blocks.specs.Reads.{Outcome, run}
use Rattle.blocks.specs.Blocks.{block_of}
use Rattle.blocks.specs.clauses.Answers.{outcome_by}
use Rattle.blocks.specs.clauses.Images.{Lent, bytes}
use Rattle.blocks.specs.declared.Address.{Address}
use Rattle.blocks.specs.declared.Refusal.{Refusal}
use Rattle.checkpoint.specs.Map.{chain}
use Rattle.checkpoint.specs.Checkpoint.{Taken, take_superblock}
use Rattle.checkpoint.specs.clauses.InPlace.{map_of}
use Rattle.checkpoint.specs.declared.Geometry.{Geometry}

-- the superblock at an address, with its place in the area and its map
abbrev pub taken_in : (ℕ → List ℕ) → Geometry → Address → Taken
taken_in f g a = record { sb = f a.0; at = a.0 - g.base; map = map_of (run f (chain g (f a.0))) }

abbrev pub taken_as : (ℕ → List ℕ) → Geometry → Result Address Refusal → Outcome Taken
taken_as f g r = outcome_by (taken_in f g) r

-- the superblock that was taken is the one that the definition takes
abbrev pub Takes : Lent → Geometry → Result Address Refusal → Type 0
Takes image g r = let f = block_of (bytes image) g.size in taken_as f g r ≡ run f (take_superblock g)
