use Rattle.node_build.proofs.RegionLaws.{build_unformed, build_formed, weighs_there, weighs_outside}
use Rattle.node_build.specs.Asked.{made}
use Rattle.std.proofs.lemmas.Result.{err_from_is_err_and}
use Rattle.std.specs.Prelude.{Err}
use mathlib.Core.Path.{sym, ap, ◌∙◌}
use Rattle.node_build.proofs.build.build.Goals as goal

pub returns-in_err-measured : goal.returns-in_err-measured
returns-in_err-measured c = let a = c.args in
    let w = weighs_outside a.info.now a.parts.now a.lengths.now c.is_packed-packed.result _ _ _ (sym c.ok_or.ensures.value ∙ c.in_err-measured.was) c.measure_all.ensures in
    let out = err_from_is_err_and c.from_residual.result c.from_residual.ensures.1 in
    ap (λ r. made r a.node.now) (out.1 ∙ ap Err (out.2 ∙ w.1)) ∙ build_unformed _ _ w.0

pub returns : goal.returns
returns c = let a = c.args in
    c.build_formed.ensures ∙ build_formed _ _ (weighs_there a.info.now a.parts.now a.lengths.now c.is_packed-packed.result _ _ _ (sym c.ok_or.ensures.value ∙ c.in_ok-measured.was) c.measure_all.ensures).0
