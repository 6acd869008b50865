-- Bits of a chunk's bitmap whose blocks the container has: none of them is refused, and what is left to say is the map and the zeros.
use Rattle.std.specs.Prelude.{Bool, true, false, List, ℕ, zero, suc, ◌+◌, ◌-◌, ◌*◌, ◌/◌, ◌≤◌, ◌<◌, min, length}
use Rattle.fields.specs.Choice.{pick}
use Rattle.fields.specs.Fields.{bit, bit_at}
use Rattle.blocks.specs.clauses.Images.{Lent, bytes, LentMut, bytes_lent}
use Rattle.block_map.specs.BlockMap.{Marked, update, marked}

-- the block of one bit: a set bit marks it, a clear one is counted
unfoldable pub bit_marked : Bool → ℕ → Marked ℕ → Marked ℕ
bit_marked true a s = record { map = update marked a s.map; figures = s.figures }
bit_marked false a s = record { map = s.map; figures = s.figures + 1 }

-- the bits from i on, of which left are left
unfoldable pub bits_marked : List ℕ → ℕ → ℕ → ℕ → Marked ℕ → Marked ℕ
bits_marked bits start zero i s = s
bits_marked bits start (suc left) i s = bits_marked bits start left (i + 1) (bit_marked (bit_at bits i) (start + i) s)

-- so many bits of a bitmap from i on, marked in a map after so many zeros
abbrev pub bits_on : Lent → ℕ → ℕ → ℕ → LentMut → ℕ → Marked ℕ
bits_on bits start n i map zeros = bits_marked (bytes bits) start n i (record { map = bytes_lent map; figures = zeros })

-- how many of the lowest n bits of a byte are set
unfoldable pub ones_in : ℕ → ℕ → ℕ
ones_in zero b = 0
ones_in (suc n) b = ones_in n b + pick (bit n b) 1 0

-- how many whole bytes of a chunk's bitmap there are whose blocks the container and the map have
abbrev pub whole_bytes : ℕ → List ℕ → List ℕ → ℕ → ℕ → ℕ
whole_bytes count map bits start blocks = min (min blocks (min (count - start) (length map - start)) / 8) (length bits)

-- byte j of a bitmap, whose eight blocks the map has; no more zeros were counted before it than there are bits
pub record InMap (map bits : List ℕ) (start j zeros : ℕ) : Type 0 where
  pub there : j < length bits
  pub inside : start + 8 * j + 8 ≤ length map
  pub few : zeros ≤ 8 * j
