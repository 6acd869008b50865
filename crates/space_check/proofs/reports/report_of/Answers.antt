use Rattle.totals.proofs.Laws.{verdict_most}
use Rattle.space_check.specs.Check.{report_of}
use mathlib.Core.Path.{refl}
use Rattle.space_check.proofs.reports.report_of.Goals as goal

pub returns : goal.returns
unfolding report_of
returns c = rw (
  c.verdict.ensures,
  c.overlap_total.ensures,
  verdict_most,
  c.u64_of.ensures.is,
  c.unused.ensures,
  c.count_blocks-totals.ensures,
)
    refl
