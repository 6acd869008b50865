-- The outcome that each answer of the code stands for.
use Rattle.std.specs.Prelude.{List, ◌≡◌, ℕ, Result, Ok, Err}
use Rattle.std.specs.Borrow.{Bor}
use Rattle.blocks.specs.Reads.{Reads, Outcome, given, refused, run}
use Rattle.blocks.specs.Blocks.{block_of}
use Rattle.blocks.specs.clauses.Images.{Lent, bytes, blocks_in}
use Rattle.blocks.specs.declared.Address.{Address}
use Rattle.blocks.specs.declared.Container.{Container}
use Rattle.blocks.specs.declared.Refusal.{Refusal}

-- what is answered stands for a value of the definition
abbrev pub outcome_by : {T A : Type 0} → (T → A) → Result T Refusal → Outcome A
outcome_by view (Ok t) = given (view t)
outcome_by view (Err r) = refused r

-- what is answered is the value itself
abbrev pub outcome : {A : Type 0} → Result A Refusal → Outcome A
outcome r = outcome_by (λ a. a) r

-- a value stands in the image or beside the answer, so that only whether it may be had is answered
abbrev pub there_as : {T A : Type 0} → A → Result T Refusal → Outcome A
there_as a r = outcome_by (λ _. a) r

-- the bytes of the slice that is answered
abbrev pub slice_as : Result (Bor (List ℕ)) Refusal → Outcome (List ℕ)
slice_as r = outcome_by (λ b. b.now) r

-- the block at the address that is answered
abbrev pub block_as : (ℕ → List ℕ) → Result Address Refusal → Outcome (List ℕ)
block_as f r = outcome_by (λ a. f a.0) r

-- an answer of tests alone: the same on every image
abbrev pub Always : {A : Type 0} → Outcome A → Reads A → Type 0
Always answer defined = (f : ℕ → List ℕ) → answer ≡ run f defined

-- the block that was read, where blocks have a size, is what the definition says; the same in a container
abbrev pub SeesIn : List ℕ → ℕ → Result (Bor (List ℕ)) Refusal → Reads (List ℕ) → Type 0
SeesIn image size r defined = slice_as r ≡ run (block_of image size) defined

abbrev pub Sees : Lent → Container → Result (Bor (List ℕ)) Refusal → Reads (List ℕ) → Type 0
Sees image c r defined = SeesIn (bytes image) c.size r defined

-- the block that was found is the one that the definition finds
abbrev pub Finds : Lent → Container → Result Address Refusal → ((ℕ → List ℕ) → Reads (List ℕ)) → Type 0
Finds image c r defined = let f = blocks_in image.entry c in block_as f r ≡ run f (defined f)
