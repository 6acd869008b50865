use Rattle.fletcher.proofs.Laws.{fletcher_reduced}
use Rattle.fletcher.specs.clauses.Pieces.{words}
use borrow.Author.Rules.{rules}
use Rattle.fletcher.proofs.Sums.reduced.Goals as goal

pub returns : goal.returns
unfolding words
returns c = record { onward = λ rest. fletcher_reduced rest _ _; fits = search rules }
