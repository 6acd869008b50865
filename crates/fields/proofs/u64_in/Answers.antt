use Rattle.fields.proofs.Laws.{field_in}
use Rattle.fields.proofs.u64_in.Goals as goal

pub returns : goal.returns
returns c = field_in 8 _ _ _ _ c.part_of-cut.ensures c.u64_at.ensures
