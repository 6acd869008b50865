use Rattle.node_build.proofs.RegionLaws.{wrote_as, packed_whole, packed_room}
use native.Mathlib.Omega.{arith}
use lib.ListN.{length}
use Rattle.node_build.proofs.regions.put_padded.Goals as goal

pub put_bytes-requires : goal.put_bytes-requires
put_bytes-requires c = omega (arith, packed_room c.args.packed (length c.args.piece.now) c.if-packed.true)

pub returns-then-packed : goal.returns-then-packed
returns-then-packed c = wrote_as (packed_whole _ _ c.if-packed.true) c.put_bytes.ensures
