use Rattle.std.proofs.Common.{List, ℕ}
use Rattle.manager.specs.clauses.Load.{read_block, ring_block}
use Rattle.manager.proofs.LoadLaws.{Left}
use Rattle.manager.proofs.load.blocks_there.Given as goal

abbrev pub invariant-loop-i : goal.invariant-loop-i
invariant-loop-i l = (f : ℕ → List ℕ) → Left f (read_block l.container l.manager) (ring_block f l.manager) l.blocks l.i
