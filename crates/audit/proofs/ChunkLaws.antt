-- Laws of chunks, one at a time, and of a chunk-info block.
use Rattle.std.proofs.Common.{List, ◌≡◌, refl, ℕ, ◌+◌, ◌-◌, ◌*◌, ◌≤◌, ◌<◌, arith, Result, eq-eqb, ne_eqb}
use Rattle.blocks.specs.Reads.{done, given, run, ◌>>=◌}
use Rattle.blocks.specs.declared.Address.{Address}
use Rattle.blocks.specs.declared.Container.{Container}
use Rattle.blocks.specs.declared.Refusal.{Refusal}
use Rattle.manager.specs.Chunks.{chunk_at, chunks_at, chunk_length, chunk_count, chunks_of}
use Rattle.manager.specs.clauses.Lists.{records}
use Rattle.manager.specs.declared.Chunk.{Chunk}
use Rattle.block_map.specs.BlockMap.{Marked, update, used}
use Rattle.report.specs.clauses.Steps.{Stepped}
use Rattle.pool.specs.Pool.{Pool}
use Rattle.audit.specs.Audit.{tally, audit_bitmap, audit_chunk, audit_chunks, enter_info}
use Rattle.audit.specs.clauses.Answers.{audited}
use Rattle.audit.specs.declared.Audit.{Audit}
use Rattle.audit.proofs.Laws.{none_left, one_less, entered_then}

-- a chunk, by whether it has a bitmap
module _ (c : Container) (p : Pool) (ch : Chunk) (s : Marked Audit) where
  pub chunk_free : ch.bitmap.0 ≡ 0 → tally ch s.map s.figures ch.blocks ≡ audit_chunk c p ch s
  unfolding audit_chunk
  chunk_free e = simp (eq-eqb _ _ e)

  pub chunk_mapped : (ch.bitmap.0 ≡ 0 → ⊥) → audit_bitmap c p ch s ≡ audit_chunk c p ch s
  unfolding audit_chunk
  chunk_mapped e = simp (ne_eqb _ _ e)

-- the chunks of a block's records from i on, of n
module _ (c : Container) (p : Pool) (b : List ℕ) (n i : ℕ) (s : Marked Audit) where
  pub chunks_done : n ≤ i → audit_chunks c p (records b (n - i) (chunks_at + chunk_length * i)) s ≡ done s
  unfolding audit_chunks records
  chunks_done h = rw (none_left n i h) refl

  pub chunks_more : (ch : Chunk) → ch ≡ chunk_at b (chunks_at + chunk_length * i) → i < n
      → audit_chunks c p (records b (n - i) (chunks_at + chunk_length * i)) s ≡ audit_chunk c p ch s >>= audit_chunks c p (records b (n - (i + 1)) (chunks_at + chunk_length * (i + 1)))
  unfolding audit_chunks records
  chunks_more ch e h = rw (e, one_less n i h, at) refl
    where
      at : chunks_at + chunk_length * i + chunk_length ≡ chunks_at + chunk_length * (i + 1)
      at = omega arith

-- a chunk-info block whose records are there
pub info_there : {f : ℕ → List ℕ} {count : ℕ} {r : Result Audit Refusal} {between after : List ℕ} (c : Container) (p : Pool) (a : Address) (map : List ℕ) (audit : Audit) (b : List ℕ)
    → run f (chunks_of b) ≡ given (records b (chunk_count b) chunks_at) → a.0 < count → between ≡ update used a.0 map
    → Stepped f count r between after (audit_chunks c p (records b (chunk_count b) chunks_at) (audited between audit))
    → Stepped f count r map after (enter_info c p a (audited map audit) b)
unfolding enter_info
info_there c p a map audit b q below e h = entered_then a map audit below e (chunks_of b) _ (audit_chunks c p) q h
