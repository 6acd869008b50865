use Rattle.std.proofs.Common.{le-leb}
use Rattle.listing_text.proofs.Laws.{◌then◌}
use Rattle.listing_text.proofs.lines.ProblemLine.put_on.Goals as goal

pub returns-then-self-le-LAST_FORMAT : goal.returns-then-self-le-LAST_FORMAT
returns-then-self-le-LAST_FORMAT c = rw (le-leb _ _ c.if-self-le-LAST_FORMAT.true) (rw c.problem_format.ensures at c.put_line.ensures then c.put.ensures)
