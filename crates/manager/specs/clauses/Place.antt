-- A manager where it stands: its bytes are those of ring blocks of the data area, read in place.
use Rattle.std.specs.Prelude.{List, [], ◌∷◌, ℕ, zero, suc, ◌+◌, ◌-◌, ◌/◌, ◌%◌, get_or}
use Rattle.blocks.specs.Blocks.{block_of}
use Rattle.blocks.specs.clauses.Images.{Lent, bytes}
use Rattle.blocks.specs.declared.Container.{Container}
use Rattle.checkpoint.specs.Superblock.{data_base, data_blocks}
use Rattle.checkpoint.specs.declared.Mapping.{Mapping}
use Rattle.manager.specs.Manager.{ring_length}
use Rattle.manager.specs.declared.Manager.{Manager}

-- what a superblock and an entry of its checkpoint map say of the place
abbrev pub place_of : List ℕ → Mapping → Manager
place_of sb m = record { base = data_base sb; blocks = data_blocks sb; at = m.address; size = m.size }

-- which block of the data area holds the manager's block i, and where that one is in the image
abbrev pub ring_index : Manager → ℕ → ℕ
ring_index m i = (m.at.0 - m.base + i) % ring_length m.blocks

unfoldable pub address_in : Manager → ℕ → ℕ
address_in m i = m.base + ring_index m i

-- byte j of the manager, in the image whose block n is f n
unfoldable pub byte_in : (ℕ → List ℕ) → ℕ → Manager → ℕ → ℕ
byte_in f size m j = get_or (f (address_in m (j / size))) (j % size) 0

-- the bytes from j on, of which left are left
unfoldable pub bytes_from : (ℕ → List ℕ) → ℕ → Manager → ℕ → ℕ → List ℕ
bytes_from f size m zero j = []
bytes_from f size m (suc left) j = byte_in f size m j ∷ bytes_from f size m left (suc j)

unfoldable pub placed : (ℕ → List ℕ) → ℕ → Manager → List ℕ
placed f size m = bytes_from f size m m.size 0

abbrev pub bytes_of : List ℕ → ℕ → Manager → List ℕ
bytes_of image size m = placed (block_of image size) size m

-- the same in an image that was lent
abbrev pub manager_on : Lent → Container → Manager → List ℕ
manager_on image c m = bytes_of (bytes image) c.size m
