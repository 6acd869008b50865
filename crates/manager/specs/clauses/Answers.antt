-- The outcome that the loader's answer stands for: the bytes stand in the image, so that only their place is answered.
use Rattle.std.specs.Prelude.{List, ◌≡◌, ℕ, Result}
use Rattle.blocks.specs.Reads.{Reads, Outcome, run}
use Rattle.blocks.specs.clauses.Answers.{outcome_by}
use Rattle.blocks.specs.clauses.Images.{Lent, blocks_in}
use Rattle.blocks.specs.declared.Container.{Container}
use Rattle.blocks.specs.declared.Refusal.{Refusal}
use Rattle.manager.specs.clauses.Place.{placed}
use Rattle.manager.specs.declared.Manager.{Manager}

abbrev pub manager_as : (ℕ → List ℕ) → ℕ → Result Manager Refusal → Outcome (List ℕ)
manager_as f size r = outcome_by (placed f size) r

-- the manager that was loaded from an image is the one that the definition gives
abbrev pub Loads : Lent → Container → Result Manager Refusal → Reads (List ℕ) → Type 0
Loads image c r defined = let f = blocks_in image.entry c in manager_as f c.size r ≡ run f defined
