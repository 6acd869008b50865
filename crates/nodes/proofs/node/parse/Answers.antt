use Rattle.nodes.proofs.Laws.{parse_kind, parse_bad, parse_given}
use borrow.Author.Rules.{rules}
use borrow.Author.Tests.{not-true, not-false}
use mathlib.Core.Path.{sym, ap, ◌∙◌}
use mathlib.Core.Bool.{not}
use Rattle.nodes.proofs.node.parse.Goals as goal

pub returns-then-not-plain : goal.returns-then-not-plain
returns-then-not-plain c = λ f. sym (parse_kind f _ (sym c.is_plain-plain.ensures ∙ not-true _ (ap not c.if-not-plain.true)))

-- that the node is plain is left to the prover: in the other order it isn't known here
pub returns-then-not-sound : goal.returns-then-not-sound
returns-then-not-sound c = λ f. sym (parse_bad f _ (search rules) (sym c.is_sound-sound.ensures ∙ not-true _ (ap not c.if-not-sound.true)))

pub returns : goal.returns
returns c = λ f. sym (parse_given f _ (sym c.is_plain-plain.ensures ∙ not-false _ (ap not c.if-not-plain.false)) (sym c.is_sound-sound.ensures ∙ not-false _ (ap not c.if-not-sound.false)))
