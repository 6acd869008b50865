use Rattle.node_build.proofs.RegionLaws.{formed_short, formed_odd, weighs_all}
use native.Mathlib.Omega.{arith}
use mathlib.Core.Path.{sym}
use Rattle.node_build.proofs.request.measure_all.Goals as goal

pub returns-then-asked-lt-DESCRIPTION : goal.returns-then-asked-lt-DESCRIPTION
returns-then-asked-lt-DESCRIPTION c = sym (formed_short _ _ _ c.if-asked-lt-DESCRIPTION.true)

pub returns-then-asked-ne0 : goal.returns-then-asked-ne0
returns-then-asked-ne0 c = sym (formed_odd _ _ _ (omega arith) c.if-asked-ne0.true)

pub returns : goal.returns
returns c = let a = c.args.asked in weighs_all a.info.now a.parts.now a.lengths.now c.args.packed c.measure.result (omega arith) (omega arith) c.measure.ensures
