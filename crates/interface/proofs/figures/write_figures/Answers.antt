use Rattle.interface.proofs.Laws.{all_written}
use Rattle.interface.proofs.figures.write_figures.Goals as goal

pub returns : goal.returns
returns c = all_written _ _ _ _ c.write_base.ensures c.write_later.ensures
