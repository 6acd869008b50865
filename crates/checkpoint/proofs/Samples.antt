-- Refusals 1 to 11, in checking order: where two sentences hold at once, the first number is given.
use mathlib.Core.Bool.{Bool}
use mathlib.Core.List.{List, [], ◌∷◌}
use Prim.Native.Nat.{ℕ, ◌^◌}
use lib.Dec.{T, eqb}
use Rattle.fields.specs.Fields.{le, num}
use Rattle.fields.proofs.Rows.{row, block_from, every}
use Rattle.blocks.specs.Reads.{Outcome, given, refused, run, no_blocks, need, ◌>>=◌}
use Rattle.blocks.specs.Refusals.{number_of}
use Rattle.checkpoint.specs.Superblock.{magic}
use Rattle.checkpoint.specs.Geometry.{power_from, size_allowed, allowed, geometry}
use Rattle.checkpoint.specs.Checkpoint.{admit}

abbrev number : {A : Type 0} → Outcome A → ℕ
number (given a) = 0
number (refused r) = number_of r

-- a superblock's fields: magic, block size, block count, incompatible flags, descriptor length and base
abbrev superblock : ℕ → ℕ → ℕ → ℕ → ℕ → ℕ → List ℕ
superblock m size count flags length base =
    block_from 168 0 (row 32 4 m ∷ row 36 4 size ∷ row 40 8 count ∷ row 64 8 flags ∷ row 104 4 length ∷ row 112 8 base ∷ []) []

-- block 0 of an image of len bytes, with a block map of room bytes
abbrev opened : ℕ → ℕ → List ℕ → ℕ
opened len room b = number (run no_blocks (geometry len b room))

abbrev top_bit : ℕ
top_bit = 2 ^ 31

-- a taken superblock with these flags and this count, where block 0 says 16
abbrev admitted : ℕ → ℕ → ℕ
admitted flags count =
    number (run no_blocks (admit (record { size = 4096; count = 16; base = 1; ring = 2 }) (record { sb = superblock magic 4096 count flags 2 1; at = 0; map = [] })))

table : List Bool
table =
    eqb (opened 4095 0 (superblock 0 0 0 0 0 0)) 1
    ∷ eqb (opened 4096 0 (superblock 0 0 0 0 0 0)) 2
    ∷ eqb (opened 4096 0 (superblock magic 6144 0 0 0 0)) 3
    ∷ eqb (opened 4096 0 (superblock magic 65536 0 0 top_bit 0)) 4
    ∷ eqb (opened 4096 0 (superblock magic 4096 (2 ^ 32) 0 top_bit 0)) 4
    ∷ eqb (opened 4096 0 (superblock magic 65536 1 0 top_bit 0)) 5
    ∷ eqb (opened 65536 15 (superblock magic 4096 16 0 top_bit 17)) 6
    ∷ eqb (opened 65536 16 (superblock magic 4096 16 0 top_bit 17)) 7
    ∷ eqb (opened 65536 16 (superblock magic 4096 16 0 2 15)) 8
    ∷ eqb (opened 65536 16 (superblock magic 4096 16 0 0 17)) 8
    ∷ eqb (opened 65536 16 (superblock magic 4096 16 0 0 16)) 0
    ∷ eqb (opened 65536 16 (superblock magic 4096 16 0 2 14)) 0
    ∷ eqb (admitted 0x1 17) 10
    ∷ eqb (admitted 0x100 17) 10
    ∷ eqb (admitted 0x2 17) 11
    ∷ eqb (admitted 0x2 16) 0
    ∷ []

samples : T (every table)
unfolding table le num run ◌>>=◌ need power_from size_allowed allowed geometry admit block_from
samples = tt
