use mathlib.Core.Path.{sym, ap, ◌∙◌}
use Rattle.report.specs.Report.{ending_number}
use Rattle.interface.proofs.figures.ending_number.Goals as goal

pub returns-in-Ok : goal.returns-in-Ok
unfolding ending_number
returns-in-Ok c = sym (ap ending_number c.in-Ok.is)

pub returns-in-Err : goal.returns-in-Err
unfolding ending_number
returns-in-Err c = c.number_of.ensures ∙ sym (ap ending_number c.in-Err.is)
