-- Answers of the steps of the code, against passes of the definition.
use Rattle.std.specs.Prelude.{◌≡◌, ℕ, ◌+◌, ◌^◌, ◌<◌, ◌≤◌, List, Result}
use Rattle.blocks.specs.Reads.{Reads, run}
use Rattle.blocks.specs.declared.Refusal.{Refusal}
use Rattle.blocks.specs.clauses.Answers.{outcome_by}
use Rattle.block_map.specs.BlockMap.{Marked}
use Rattle.block_map.specs.clauses.Maps.{Kept}
use Rattle.report.specs.declared.Cursor.{Cursor}

-- a step ended as the definition says on the image whose block n is f n, and left the bytes past the block count as they were; after
-- a refusal the map is the one that the steps before it left. `view` gives the figures that the step's answer stands for
pub record SteppedBy {T F : Type 0} (view : T → F) (f : ℕ → List ℕ) (count : ℕ) (r : Result T Refusal) (before after : List ℕ) (defined : Reads (Marked F)) : Type 0 where
  pub goes : outcome_by (λ t. record { map = after; figures = view t }) r ≡ run f defined
  pub kept : Kept count before after

-- a step that answers the figures themselves
abbrev pub Stepped : {F : Type 0} → (ℕ → List ℕ) → ℕ → Result F Refusal → List ℕ → List ℕ → Reads (Marked F) → Type 0
Stepped f count r before after defined = SteppedBy (λ x. x) f count r before after defined

-- a cursor that no sum of its numbers passes 2^64 for, and one with something left
abbrev pub Within : Cursor → Type 0
Within at = at.next + at.left < 2 ^ 64

abbrev pub Ahead : Cursor → Type 0
Ahead at = (0 < at.left) × Within at

-- steps that logged nothing, from one cursor to another: whatever was logged before, what is left then is what was left before
pub record MovesUnlogged {F : Type 0} (f : ℕ → List ℕ) (count : ℕ) (from to : Cursor) (before after : List ℕ) (rest : Cursor → Marked F → Reads (Marked F)) : Type 0 where
  pub goes : (figures : F) → run f (rest to (record { map = after; figures = figures })) ≡ run f (rest from (record { map = before; figures = figures }))
  pub further : (to.left ≤ from.left) × (to.next + to.left ≤ from.next + from.left)
  pub kept : Kept count before after
