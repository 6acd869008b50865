use Rattle.listing_text.specs.Lines.{kind_name, kind_names}
use Rattle.listing_text.proofs.names.kind_name.Goals as goal

pub returns : goal.returns
unfolding kind_name kind_names
returns c = c.text_at.ensures
