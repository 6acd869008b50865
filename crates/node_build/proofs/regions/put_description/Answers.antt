use Rattle.node_build.proofs.RegionLaws.{wrote_as, described_root, described_other, description_length_lem, wrote_none}
use native.Mathlib.Omega.{arith}
use mathlib.Core.Path.{◌∙◌}
use Rattle.node_build.proofs.regions.put_description.Goals as goal

pub put_bytes-requires : goal.put_bytes-requires
put_bytes-requires c = let a = c.args in omega (arith, description_length_lem a.root a.info.now c.if-root.true _ c.part_of-whole.ensures c.requires.0)

pub returns-then-root : goal.returns-then-root
returns-then-root c = wrote_as (c.part_of-whole.ensures ∙ described_root _ _ c.if-root.true) c.put_bytes.ensures

pub returns : goal.returns
returns c = wrote_as (described_other _ _ c.if-root.false) (wrote_none _ _ (omega arith))
