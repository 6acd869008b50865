-- What a ghost's value counts.
use Rattle.std.specs.Prelude.{Option, None}
use Rattle.std.proofs.Common.{◌≡◌, refl, List, ℕ}
use Rattle.blocks.specs.Reads.{run, given}
use Rattle.nodes.specs.clauses.Answers.{value_in}
use Rattle.nodes.specs.declared.Part.{Part}
use Rattle.queue.specs.Queue.{run_count}

pub count_ghost : (f : ℕ → List ℕ) (b : List ℕ) (v : Option Part) → v ≡ None → run f (run_count (value_in b v)) ≡ given 1
unfolding run run_count
count_ghost f b v e = rw e refl
