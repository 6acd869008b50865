-- Laws of a chunk's bitmap: its bits one at a time.
use Rattle.std.proofs.Common.{true, false, List, ◌≡◌, refl, ℕ, ◌+◌, ◌-◌, ◌≤◌, ◌<◌, Ok}
use Rattle.fields.specs.Fields.{bit_at}
use Rattle.blocks.specs.Reads.{done, run, ◌>>=◌}
use Rattle.blocks.specs.declared.Container.{Container}
use Rattle.block_map.specs.BlockMap.{Marked, update, marked}
use Rattle.block_map.proofs.Laws.{kept_update}
use Rattle.report.specs.clauses.Steps.{SteppedBy}
use Rattle.audit.specs.Audit.{mark_set, mark_bit, mark_from}
use Rattle.audit.proofs.Laws.{none_left, one_less}

-- a set bit's block, which the container has
pub bit_marked : (f : ℕ → List ℕ) (count a : ℕ) {map after : List ℕ} (zeros : ℕ) → a < count → after ≡ update marked a map
    → SteppedBy (λ (_ : Unit {0}). zeros) f count (Ok tt) map after (done (record { map = update marked a map; figures = zeros }))
unfolding run
bit_marked f count a zeros h q = rw q (record { goes = refl; kept = kept_update _ marked a _ h })

-- the bits from i on, before an end
module _ (c : Container) (bits : List ℕ) (start end i : ℕ) (s : Marked ℕ) where
  pub bits_done : end ≤ i → mark_from c bits start (end - i) i s ≡ done s
  unfolding mark_from
  bits_done h = rw (none_left end i h) refl

  pub set_next : i < end → bit_at bits i ≡ true → mark_from c bits start (end - i) i s ≡ mark_set c start i s >>= mark_from c bits start (end - (i + 1)) (i + 1)
  unfolding mark_from mark_bit
  set_next h b = rw (one_less end i h, b) refl

  pub clear_next : i < end → bit_at bits i ≡ false → mark_from c bits start (end - i) i s ≡ mark_from c bits start (end - (i + 1)) (i + 1) (record { map = s.map; figures = s.figures + 1 })
  unfolding mark_from mark_bit ◌>>=◌
  clear_next h b = rw (one_less end i h, b) refl
