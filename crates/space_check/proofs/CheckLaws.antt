-- The stages of the code are the definition's pass; and which refusals leave the block map.
use Rattle.std.specs.Prelude.{Err, None, Ok, Option, Some}
use Rattle.std.specs.Prelude.{Result as Answered}
use Rattle.checkpoint.specs.declared.Mapping.{Mapping}
use mathlib.Core.Path.{◌≡◌, refl, sym, ap, ◌∙◌}
use mathlib.Core.Bool.{Bool, true, false, not, ◌||◌}
use mathlib.Core.List.{List}
use Prim.Native.Nat.{ℕ, zero, suc, ◌+◌, ◌-◌, ◌≤◌, min}
use native.Mathlib.Omega.{arith}
use lib.Dec.{leb, eqb}
use lib.ListN.{length, take, drop, replicate, length-replicate, length-append, length-drop}
use lib.Seq.{drop_at}
use Rattle.fields.specs.Fields.{bit}
use Rattle.fields.specs.Header.{xid_of}
use Rattle.blocks.specs.Blocks.{block_of}
use Rattle.blocks.specs.Reads.{done, no_blocks, Outcome, given, refused, run, ◌>>=◌, need}
use Rattle.blocks.specs.Refusals.{number_of}
use Rattle.blocks.specs.clauses.Images.{Holds}
use Rattle.blocks.specs.declared.Address.{Address}
use Rattle.blocks.specs.declared.Container.{Container}
use Rattle.blocks.specs.declared.ObjectId.{ObjectId}
use Rattle.blocks.specs.declared.Refusal.{Refusal}
use Rattle.blocks.specs.declared.Refusal.TheVariants.{NoCheckpoint, Incompatible, CountDiffers}
use Rattle.blocks.proofs.Laws.{then_given, need_held}
use Rattle.checkpoint.specs.Superblock.{incompatible, block_count}
use Rattle.checkpoint.specs.Map.{chain, lookup}
use Rattle.checkpoint.specs.Checkpoint.{Taken, take_superblock, admit}
use Rattle.checkpoint.specs.Geometry.{least_size, geometry}
use Rattle.checkpoint.specs.clauses.Answers.{taken_in}
use Rattle.checkpoint.specs.clauses.InPlace.{mapped_in, loads}
use Rattle.checkpoint.specs.declared.Candidate.{Candidate}
use Rattle.checkpoint.specs.declared.Checkpoint.{Checkpoint}
use Rattle.checkpoint.specs.declared.Geometry.{Geometry}
use Rattle.checkpoint.proofs.OpeningLaws.{geometry_given}
use Rattle.checkpoint.proofs.ChainLaws.{lookup_in_place}
use Rattle.checkpoint.proofs.SearchLaws.{try_left, next, take_tries, try_end, try_none, try_here, try_next, taken_given}
use Rattle.block_map.specs.BlockMap.{Marked, cleared}
use Rattle.block_map.proofs.Laws.{kept_cleared}
use Rattle.report.specs.Report.{refusal, reported}
use Rattle.report.specs.clauses.Steps.{Stepped}
use Rattle.report.specs.declared.Answer.{Answer}
use Rattle.report.specs.declared.Report.{Report}
use Rattle.report.proofs.StepLaws.{stepped_ok, stepped_err}
use Rattle.space_check.specs.Check.{Result, last_untouched, body, rest, pass, settle, check_in, check}
use Rattle.space_check.specs.clauses.Stages.{body_of, settle_late, result_of, Ready}
use Rattle.space_check.proofs.Late.{body_touches}

same_refusal : {A : Type 0} (r x : Refusal) → ◌≡◌ {A = Outcome A} (refused r) (refused x) → r ≡ x
same_refusal r x e = cc

-- the checkpoint that a pass takes, with the container that it was admitted to
module _ (f : ℕ → List ℕ) (g : Geometry) (a : Address) (c : Container) (taken : run f (take_superblock g) ≡ given (taken_in f g a)) where
  abbrev k : Checkpoint
  k = record { container = c; geometry = g; superblock = a }

  abbrev t : Taken
  t = taken_in f g a

  -- what the map has for an id
  mapped_same : (id : ObjectId) → mapped_in f k id ≡ lookup id t.map
  mapped_same id = let is = taken_given f g t taken in lookup_in_place f g (f a.0) is.loaded (omega (arith, is.inside)) id

  abbrev mapped : ObjectId → Option Mapping
  mapped id = lookup id t.map

  -- where the body refuses, the map is zeroed
  pub late : (map : List ℕ) → settle c.count map (run f (body c (f a.0) mapped (cleared c.count map))) ≡ settle_late c.count map (run f (body_of k f (cleared c.count map)))
  unfolding settle
  late map = go (run f (body c (f a.0) mapped (cleared c.count map))) refl ∙ ap (λ (m : ObjectId → Option Mapping). settle_late c.count map (run f (body c (f a.0) m (cleared c.count map)))) (sym (λ i id. mapped_same id i))
    where
      go : (o : Outcome (Marked Report)) → run f (body c (f a.0) mapped (cleared c.count map)) ≡ o → settle c.count map o ≡ settle_late c.count map o
      go (given s) e = refl
      go (refused r) e = rw (body_touches c (f a.0) mapped f (cleared c.count map) r e) refl

-- refusals before the body leave the map as it was
abbrev IsEarly : Refusal → Type 0
IsEarly r = leb (number_of r) last_untouched ≡ true

tried_refused : (f : ℕ → List ℕ) (g : Geometry) (left : ℕ) (last : Option Candidate) (r : Refusal) → try_left f g left last ≡ refused r → IsEarly r
tried_refused f g zero last r e = let same : NoCheckpoint ≡ r = same_refusal _ _ (sym (try_end f g 0 last refl) ∙ e) in rw (← same) refl
tried_refused f g (suc left) last r e = go (next f g last) (λ d q. tried_refused f g left (Some d) r q) refl
  where
    go : (b : Option Candidate) → ((d : Candidate) → try_left f g left (Some d) ≡ refused r → IsEarly r) → next f g last ≡ b → IsEarly r
    go None again b = let same : NoCheckpoint ≡ r = same_refusal _ _ (sym (try_none f g (suc left) last b) ∙ e) in rw (← same) refl
    go (Some d) again b = on (loads (run f (chain g (f (g.base + d.at))))) refl
      where
        more : suc left ≡ 0 → ⊥
        more z = omega arith

        on : (l : Bool) → loads (run f (chain g (f (g.base + d.at)))) ≡ l → IsEarly r
        on true l = let never : given (taken_in f g (record { 0 = g.base + d.at })) ≡ refused r = sym (try_here f g (suc left) last d more b _ refl l) ∙ e in let z : ◌≡◌ {A = ℕ} 0 1 = cc in absurd (omega arith)
        on false l = let less : suc left - 1 ≡ left = omega arith in again d (rw less at (sym (try_next f g (suc left) last d more b _ refl l) ∙ e))

pub take_early : (f : ℕ → List ℕ) (g : Geometry) (r : Refusal) → run f (take_superblock g) ≡ refused r → IsEarly r
take_early f g r e = tried_refused f g g.ring None r (sym (take_tries f g) ∙ e)

pub admit_early : (f : ℕ → List ℕ) (g : Geometry) (taken : Taken) (r : Refusal) → run f (admit g taken) ≡ refused r → IsEarly r
unfolding run need ◌>>=◌ admit
admit_early f g taken r e = go (not (bit 0 (incompatible taken.sb) || bit 8 (incompatible taken.sb))) (eqb (block_count taken.sb) g.count) e
  where
    go : (a b : Bool) → run {A = Container} f (need a Incompatible >>= λ _. need b CountDiffers >>= λ _. done (record { size = g.size; count = g.count; xid = xid_of taken.sb })) ≡ refused r → IsEarly r
    go false b q = let same : Incompatible ≡ r = same_refusal _ _ q in rw (← same) refl
    go true false q = let same : CountDiffers ≡ r = same_refusal _ _ q in rw (← same) refl
    go true true q = let z : ◌≡◌ {A = ℕ} 0 1 = cc in absurd (omega arith)

-- a refusal before the body, as the code answers it
pub settled_early : (count : ℕ) (map : List ℕ) (o : Outcome (Marked Report)) (r : Refusal) → o ≡ refused r → IsEarly r → (a : Answer) → a ≡ refusal r → result_of a map ≡ settle count map o
unfolding settle
settled_early count map o r e early a q = rw (q, e) (rw early refl)

-- the container that a pass is admitted to is the one that block 0 names
admit_is : (f : ℕ → List ℕ) (g : Geometry) (taken : Taken) (cont : Container) → run f (admit g taken) ≡ given cont → cont ≡ record { size = g.size; count = g.count; xid = xid_of taken.sb }
unfolding run admit ◌>>=◌
admit_is f g taken cont e =
    let flags = need_held f _ _ _ cont e in
    let count = need_held f _ _ _ cont flags.1 in
    let same : ◌≡◌ {A = Outcome Container} (given (record { size = g.size; count = g.count; xid = xid_of taken.sb })) (given cont) = count.1 in cc

module _ (image : List ℕ) (map : List ℕ) (g : Geometry) (a : Address) (cont : Container) (admitted : run (block_of image g.size) (admit g (taken_in (block_of image g.size) g a)) ≡ given cont) where
  pub ready_holds : Ready image map g → Holds image cont × (cont.count ≤ length map)
  ready_holds h = rw (admit_is _ g _ cont admitted) (record { some = h.some; words = h.words; fits = h.fits }, h.room)

  pub taken_passes : run (block_of image g.size) (take_superblock g) ≡ given (taken_in (block_of image g.size) g a) → (x : Result)
      → x ≡ settle_late cont.count map (run (block_of image cont.size) (body_of (record { container = cont; geometry = g; superblock = a }) (block_of image cont.size) (cleared cont.count map)))
      → x ≡ settle g.count map (run (block_of image g.size) (rest g map (taken_in (block_of image g.size) g a)))
  unfolding rest
  taken_passes taken x h =
      (rw (admit_is _ g _ cont admitted) at h)
      ∙ sym (late (block_of image g.size) g a _ taken map)
      ∙ ap (settle g.count map) (sym (then_given (block_of image g.size) (admit g (taken_in (block_of image g.size) g a)) _ _ (admitted ∙ ap given (admit_is _ g _ cont admitted))))

-- zeroing keeps a map's length
length_cleared : (count : ℕ) (map : List ℕ) → count ≤ length map → length (cleared count map) ≡ length map
unfolding cleared
length_cleared count map h = rw (length-append, length-replicate {A = ℕ} count 0, length-drop) (omega arith)

-- zeroing twice
cleared_again : (count : ℕ) (map : List ℕ) → cleared count (cleared count map) ≡ cleared count map
unfolding cleared
cleared_again count map = rw (drop_at (replicate count 0) (drop count map) count (length-replicate count 0)) refl

-- the body, from a map that was cleared, as the code answers it
module _ (f : ℕ → List ℕ) (check : Checkpoint) (map first second : List ℕ) (room : check.container.count ≤ length map) (is : first ≡ cleared (min check.container.count (length map)) map) (passed : Answered Report Refusal) (h : Stepped f check.container.count passed first second (body_of check f first)) where
  first_is : first ≡ cleared check.container.count map
  first_is = let all : min check.container.count (length map) ≡ check.container.count = omega arith in is ∙ rw all refl

  pub late_refused : (r : Refusal) → passed ≡ Err r → (a : Answer) → a ≡ refusal r → (last : List ℕ) → last ≡ cleared (min check.container.count (length second)) second
      → result_of a last ≡ settle_late check.container.count map (run f (body_of check f (cleared check.container.count map)))
  late_refused r e a q last l =
      let all : min check.container.count (length second) ≡ check.container.count = omega (arith, h.kept.long, cleared_long) in
      let zero : last ≡ cleared check.container.count map = l ∙ rw all refl ∙ kept_cleared _ _ _ h.kept ∙ ap (cleared check.container.count) first_is ∙ cleared_again _ map in
      rw (q, zero, rw first_is at (stepped_err h r e)) refl
    where
      cleared_long : length first ≡ length map
      cleared_long = rw first_is (length_cleared check.container.count map room)

  pub late_done : (report : Report) → passed ≡ Ok report → (a : Answer) → a ≡ reported report → result_of a second ≡ settle_late check.container.count map (run f (body_of check f (cleared check.container.count map)))
  late_done report e a q = rw (q, rw first_is at (stepped_ok h report e)) refl

-- block 0's part
module _ (image map : List ℕ) where
  abbrev opens : Outcome Geometry
  opens = run no_blocks (geometry (length image) (take least_size image) (length map))

  pub check_refused : (r : Refusal) → opens ≡ refused r → (a : Answer) → a ≡ refusal r → result_of a map ≡ check image map
  unfolding check check_in
  check_refused r e a q = rw (q, e) refl

  pub check_opened : (g : Geometry) → opens ≡ given g → check image map ≡ settle g.count map (run (block_of image g.size) (pass g map))
  unfolding check check_in
  check_opened g e = rw e refl

  pub opened_ready : (g : Geometry) → opens ≡ given g → Ready image map g
  opened_ready g e =
      let o = geometry_given (length image) (length map) (take least_size image) g e in
      record { some = omega (arith, o.size.least); words = omega (arith, o.size.pages); fits = o.whole; room = o.wide; area = omega (arith, o.area, o.few) }
