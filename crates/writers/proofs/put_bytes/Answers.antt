use mathlib.Core.Path.{◌≡◌}
use mathlib.Core.List.{◌++◌}
use lib.ListN.{take-append-drop}
use Rattle.writers.proofs.Laws.{wrote_then}
use Rattle.writers.proofs.put_bytes.Goals as goal

pub returns : goal.returns
returns c =
    let whole : c.split_at.result.0.now ++ c.split_at.result.1.now ≡ c.args.bytes.now = rw (c.split_at.ensures.front, c.split_at.ensures.back) (take-append-drop _ _) in
    rw whole at (wrote_then c.put_words-end.ensures c.put_each-2.ensures)
