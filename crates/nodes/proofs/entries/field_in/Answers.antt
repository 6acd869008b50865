use Rattle.blocks.specs.clauses.Answers.{outcome}
use Rattle.nodes.proofs.Laws.{field_found}
use mathlib.Core.Path.{ap, ◌∙◌}
use Rattle.nodes.proofs.entries.field_in.Goals as goal

pub returns : goal.returns
returns c = λ f. ap outcome c.ok_or.ensures.value ∙ field_found f _ _ _ _ c.u64_in.ensures.is
