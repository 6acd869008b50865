use Rattle.checkpoint.proofs.OpeningLaws.{allowed_size}
use Rattle.node_build.proofs.RegionLaws.{plan_of, fits_is, from_size, from_room, from_fits}
use Rattle.node_build.specs.clauses.Regions.{handed_by}
use lib.ListN.{length}
use native.Mathlib.Omega.{arith}
use mathlib.Core.Path.{sym, ◌∙◌}
use Rattle.node_build.proofs.build.build_formed.Goals as goal

pub returns-then-not-size_allowed : goal.returns-then-not-size_allowed
returns-then-not-size_allowed c = from_size _ _ (sym c.size_allowed.ensures ∙ c.if-not-size_allowed.true)

pub lay_out-plan-requires : goal.lay_out-plan-requires
lay_out-plan-requires c = let d = allowed_size (length c.args.node.now) (sym c.size_allowed.ensures ∙ c.if-not-size_allowed.false) in
    (omega (arith, d.least), d.most, omega arith)

pub returns-then-not-fits : goal.returns-then-not-fits
returns-then-not-fits c = let a = c.args in
    let h = handed_by a.asked in
    from_room _ _ (sym c.size_allowed.ensures ∙ c.if-not-size_allowed.false) (sym (fits_is h c.requires c.lay_out-plan.ensures _ c.fits.ensures) ∙ c.if-not-fits.true)

pub fill-requires : goal.fill-requires
fill-requires c = let a = c.args in
    let h = handed_by a.asked in
    let d = allowed_size (length a.node.now) (sym c.size_allowed.ensures ∙ c.if-not-size_allowed.false) in
    record { least = omega (arith, d.least); formed = c.requires.formed; plan = plan_of h c.requires c.lay_out-plan.ensures; held = sym (fits_is h c.requires c.lay_out-plan.ensures _ c.fits.ensures) ∙ c.if-not-fits.false }

pub returns : goal.returns
returns c = let a = c.args in
    let h = handed_by a.asked in
    from_fits _ _ (sym c.size_allowed.ensures ∙ c.if-not-size_allowed.false) (sym (fits_is h c.requires c.lay_out-plan.ensures _ c.fits.ensures) ∙ c.if-not-fits.false) _ _ _ c.fill.ensures.0 c.fill.ensures.1 c.seal.ensures
