-- A walk's steps, as the code makes them: children are read again in place, from the last to the first.
use Rattle.std.specs.Prelude.{List, [], ◌∷◌, ℕ, zero, suc}
use Rattle.blocks.specs.Reads.{Reads, refuse, Outcome, given, refused, run, no_blocks, ◌>>=◌}
use Rattle.blocks.specs.declared.Address.{Address}
use Rattle.blocks.specs.declared.Container.{Container}
use Rattle.blocks.specs.declared.Refusal.TheVariants.{TooManyNodes}
use Rattle.nodes.specs.Node.{entry, pointer}
use Rattle.nodes.specs.Walk.{next_node}
use Rattle.nodes.specs.declared.Description.{Description}

-- the child pointer of entry i, which no block is read for
abbrev pub pointer_of : Description → List ℕ → ℕ → Reads ℕ
pointer_of d b i = entry d b i >>= λ e. pointer e.value

abbrev pub number_in : Outcome ℕ → ℕ
number_in (given n) = n
number_in (refused r) = 0

unfoldable pub pointer_at : Description → List ℕ → ℕ → ℕ
pointer_at d b i = number_in (run no_blocks (pointer_of d b i))

-- those of the first n entries, the last first
unfoldable pub pointers_down : Description → List ℕ → ℕ → List ℕ
pointers_down d b zero = []
pointers_down d b (suc n) = pointer_at d b n ∷ pointers_down d b n

-- a node whose turn has come, where so many levels and nodes may still come
unfoldable pub next_below : Container → ℕ → ℕ → Address → Reads (List ℕ)
next_below c zero left a = refuse TooManyNodes
next_below c (suc levels) left a = next_node c left a
