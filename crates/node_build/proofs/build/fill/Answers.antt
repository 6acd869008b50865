use Rattle.node_build.proofs.RegionLaws.{laid, room_whole, whole_info, node_is, wrote_as, describes}
use Rattle.writers.proofs.Laws.{wrote_then, wrote_length}
use native.Mathlib.Omega.{arith}
use Rattle.node_build.proofs.build.fill.Goals as goal

pub put_headers-table-requires : goal.put_headers-table-requires
put_headers-table-requires c = let r = c.requires in ((laid r).holds, omega (arith, r.least))

pub put_entries-end-requires : goal.put_entries-end-requires
put_entries-end-requires c = let r = c.requires in (laid r, omega (arith, room_whole r, c.put_headers-table.ensures.1, wrote_length c.put_headers-table.ensures.0))

pub put_description-requires : goal.put_description-requires
put_description-requires c = let r = c.requires in (whole_info r, omega (arith, room_whole r, c.put_entries-end.ensures.1, c.put_headers-table.ensures.1, wrote_length c.put_entries-end.ensures.0, wrote_length c.put_headers-table.ensures.0))

pub returns : goal.returns
returns c = let r = c.requires in
    let a = c.args in (
      wrote_as (node_is r) (wrote_then (wrote_then c.put_headers-table.ensures.0 c.put_entries-end.ensures.0) c.put_description.ensures),
      omega (arith, room_whole r, describes a.asked.header.root a.asked.info.now (whole_info r), c.put_description.ensures.next, c.put_entries-end.ensures.1, c.put_headers-table.ensures.1),
    )
