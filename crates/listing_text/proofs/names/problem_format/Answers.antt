use Rattle.listing_text.specs.Lines.{problem_format, problem_formats}
use Rattle.listing_text.proofs.names.problem_format.Goals as goal

pub returns : goal.returns
unfolding problem_format problem_formats
returns c = c.text_at.ensures
