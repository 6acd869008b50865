-- The loader's steps, each as one function of the code makes it.
use Rattle.std.specs.Prelude.{◌≡◌, List, [], ◌++◌, ℕ, zero, suc, ◌+◌, ◌-◌, ◌%◌, ◌≤◌, ◌<◌, leb, length, take, drop, Result}
use Rattle.blocks.specs.Reads.{Reads, done, ◌>>=◌, need, run}
use Rattle.blocks.specs.Blocks.{read_raw, sum}
use Rattle.blocks.specs.clauses.Answers.{there_as}
use Rattle.blocks.specs.clauses.Images.{Holds}
use Rattle.blocks.specs.declared.Container.{Container}
use Rattle.blocks.specs.declared.Refusal.{Refusal}
use Rattle.blocks.specs.declared.Refusal.TheVariants.{Overflow}
use Rattle.manager.specs.Manager.{blocks_for}
use Rattle.manager.specs.clauses.Place.{ring_index, address_in}
use Rattle.manager.specs.declared.Manager.{Manager}

-- blocks read one after another, each by its pass: left of them from number i on, after those found
unfoldable pub read_each : (ℕ → Reads (List ℕ)) → ℕ → ℕ → List ℕ → Reads (List ℕ)
read_each read zero i found = done found
read_each read (suc left) i found = read i >>= λ b. read_each read left (i + 1) (found ++ b)

-- the first n of them, one after another
unfoldable pub joined : (ℕ → List ℕ) → ℕ → List ℕ
joined blocks zero = []
joined blocks (suc n) = joined blocks n ++ blocks n

-- a manager's block i: how the definition reads it, and which one it is
unfoldable pub read_block : Container → Manager → ℕ → Reads (List ℕ)
read_block c m i = do
  _ ← need (leb m.base m.at.0) Overflow
  _ ← sum (m.at.0 - m.base) i
  a ← sum m.base (ring_index m i)
  read_raw c (record { 0 = a })

abbrev pub ring_block : (ℕ → List ℕ) → Manager → ℕ → List ℕ
ring_block f m i = f (address_in m i)

-- whether it, or the first n, may be read
abbrev pub BlockSeen : Container → Manager → ℕ → Result (Unit {0}) Refusal → Type 0
BlockSeen c m i r = (f : ℕ → List ℕ) → there_as (ring_block f m i) r ≡ run f (read_block c m i)

abbrev pub BlocksSeen : Container → Manager → ℕ → Result (Unit {0}) Refusal → Type 0
BlocksSeen c m n r = (f : ℕ → List ℕ) → there_as (joined (ring_block f m) n) r ≡ run f (read_each (read_block c m) n 0 [])

-- an image that has every block of a manager
pub record Stands (image : List ℕ) (c : Container) (m : Manager) : Type 0 where
  pub holds : Holds image c
  pub inside : (i : ℕ) → i < blocks_for c m.size → address_in m i < c.count

-- a piece of a manager's bytes, in whole words, from a place on
pub record Piece (sm : List ℕ) (pos : ℕ) (b : List ℕ) : Type 0 where
  pub is : b ≡ take (length b) (drop pos sm)
  pub some : 0 < length b
  pub whole : length b % 4 ≡ 0
  pub fits : pos + length b ≤ length sm
