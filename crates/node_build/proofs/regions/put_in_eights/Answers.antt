use Rattle.node_build.proofs.RegionLaws.{wrote_as, wrote_none, padded_nothing, padded_put, pair_whole, eights_room}
use native.Mathlib.Omega.{arith}
use Prim.Native.Nat.{◌+◌}
use lib.ListN.{length}
use mathlib.Core.Path.{ap}
use Rattle.node_build.proofs.regions.put_in_eights.Goals as goal

pub returns-then-n-eq0 : goal.returns-then-n-eq0
returns-then-n-eq0 c = wrote_as (padded_nothing _ c.if-n-eq0.true) (wrote_none _ _ (omega (arith, eights_room 0)))

pub put_pair-requires : goal.put_pair-requires
put_pair-requires c = (omega (arith, c.if-n-eq-PAIR.true), omega (arith, c.if-n-eq-PAIR.true, eights_room (length c.args.piece.now)))

pub returns-then-n-eq-PAIR : goal.returns-then-n-eq-PAIR
returns-then-n-eq-PAIR c = wrote_as (pair_whole _ c.if-n-eq-PAIR.true) c.put_pair.ensures

pub put-requires : goal.put-requires
put-requires c = omega (arith, c.in_eights.ensures.0, c.if-n-eq0.false, eights_room (length c.args.piece.now))

pub returns : goal.returns
returns c = padded_put _ _ _ (omega (arith, c.if-n-eq0.false)) (ap (λ n. c.args.at + n) c.in_eights.ensures.0) c.put.ensures.0 c.put_bytes.ensures
