use mathlib.Core.List.{[]}
use Rattle.fletcher.specs.clauses.Pieces.{words}
use Rattle.fletcher.specs.Fletcher.{seal, fletcher}
use Rattle.fletcher.proofs.seal.Goals as goal

pub returns : goal.returns
unfolding seal fletcher words
returns c = c.reduced-sums.ensures.onward []
