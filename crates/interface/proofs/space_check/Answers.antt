use mathlib.Core.Path.{ap, ◌∙◌}
use Rattle.space_check.specs.Check.{Result}
use Rattle.interface.specs.Figures.{written}
use Rattle.interface.proofs.space_check.Goals as goal

pub returns : goal.returns
returns c = let checked = c.check-answer.ensures in
    record { map_after = ap (λ (r : Result). r.map) checked; figures_after = c.write_figures.ensures ∙ ap (λ (r : Result). written r.answer c.args.figures.now) checked }
