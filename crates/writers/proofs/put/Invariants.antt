use Rattle.writers.specs.Bytes.{le_bytes}
use Rattle.std.specs.Prelude.{◌≡◌, ◌++◌, length, take}
use Prim.Native.Nat.{◌-◌}
use Rattle.writers.proofs.put.Given as goal

abbrev pub invariant-loop-byte : goal.invariant-loop-byte
invariant-loop-byte l = take l.byte-index l.byte-items ++ le_bytes (length l.byte-items - l.byte-index) l.rest ≡ le_bytes l.width l.number
