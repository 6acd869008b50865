use mathlib.Core.Path.{refl}
use native.Mathlib.Omega.{arith}
use Rattle.blocks.specs.Reads.{run}
use Rattle.blocks.proofs.Laws.{at_ok, at_err}
use Rattle.nodes.specs.Walk.{walk}
use Rattle.trees.proofs.WalkLaws.{read_some}
use Rattle.trees.proofs.walks.walk.Goals as goal

pub walk_below-requires : goal.walk_below-requires
walk_below-requires c = (omega arith, read_some _ _ _ c.requires, c.requires)

pub returns-in_err-walked : goal.returns-in_err-walked
unfolding walk
returns-in_err-walked c = record { goes = at_err _ _ _ _ c.walk_below.ensures.goes _ _ _ c.in_err-walked.was _ c.from_residual.ensures.1; kept = c.walk_below.ensures.kept }

pub returns : goal.returns
unfolding run walk
returns c = record { goes = at_ok _ _ _ _ c.walk_below.ensures.goes _ _ c.in_ok-walked.was _ refl; kept = c.walk_below.ensures.kept }
