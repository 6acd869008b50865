-- Laws of the pass's stages.
use Rattle.std.specs.Prelude.{Ok, Option, Result}
use Rattle.checkpoint.specs.declared.Mapping.{Mapping}
use mathlib.Core.Path.{◌≡◌, refl, sym, ap, ◌∙◌}
use mathlib.Core.List.{List}
use Prim.Native.Nat.{ℕ, zero, suc, ◌+◌, ◌-◌, ◌%◌, ◌<◌}
use native.Mathlib.Omega.{arith}
use Rattle.blocks.specs.Reads.{Reads, done, given, refused, run, ◌>>=◌}
use Rattle.blocks.specs.declared.Address.{Address}
use Rattle.blocks.specs.declared.Container.{Container}
use Rattle.blocks.specs.declared.ObjectId.{ObjectId}
use Rattle.blocks.specs.declared.Refusal.{Refusal}
use Rattle.blocks.proofs.Laws.{then_given, then_refused, both, bind_done}
use Rattle.nodes.specs.Node.{read_node, describe}
use Rattle.nodes.specs.ObjectMap.{read_object_map, describe_map, load_object_map}
use Rattle.nodes.specs.Walk.{walk}
use Rattle.nodes.specs.declared.Description.{Description}
use Rattle.nodes.proofs.Laws.{node_given}
use Rattle.checkpoint.specs.Superblock.{manager_id, object_map_address}
use Rattle.manager.specs.Manager.{manager_by, manager}
use Rattle.block_map.specs.BlockMap.{Marked}
use Rattle.report.specs.clauses.Steps.{Stepped}
use Rattle.report.specs.declared.OverlapLog.{OverlapLog}
use Rattle.report.proofs.StepLaws.{stepped_ok}
use Rattle.pool.specs.Pool.{Pool, load_pool}
use Rattle.claims.specs.Claims.{object_map_node, claim, claim_node}
use Rattle.trees.proofs.ScanLaws.{bind_cong}
use Rattle.volumes.specs.Volumes.{claim_volumes}
use Rattle.space_check.specs.Check.{Parts, pool_part, manager_part, load_parts, claim_areas, claim_mappings_and_volumes, claim_objects}
use Rattle.space_check.specs.clauses.Stages.{superblock_area, pool_area, area_of, areas_from}
use Rattle.space_check.specs.declared.Area.{Area}

-- the areas from a kind on
module _ (c : Container) (sb sm : List ℕ) (kind : ℕ) (s : Marked OverlapLog) where
  pub areas_end : (left : ℕ) → left ≡ 0 → areas_from c sb sm left kind s ≡ done s
  unfolding areas_from
  areas_end left e = rw e refl

  pub areas_turn : (left : ℕ) → 0 < left → kind < 16 → (read : List ℕ) → read ≡ sb → (a : Area) → a ≡ area_of read sm kind → areas_from c sb sm left kind s ≡ claim c (kind % 16) a.start a.len s >>= areas_from c sb sm (left - 1) (kind + 1)
  unfolding areas_from
  areas_turn zero h small read q a is = absurd (omega arith)
  areas_turn (suc left) h small read q a is =
      let less : suc left - 1 ≡ left = omega arith in
      let same : kind % 16 ≡ kind = omega arith in rw (less, same, is, q) refl

-- a is the object map's address
pub map_same : (f : ℕ → List ℕ) (c : Container) (sb : List ℕ) (a : Address) → a ≡ object_map_address sb → run f (load_object_map c a) ≡ run f (load_object_map c (object_map_address sb))
map_same f c sb a is = rw is refl

module _ (f : ℕ → List ℕ) (c : Container) (sb : List ℕ) (mapped : ObjectId → Option Mapping) where
  -- read are the superblock's bytes, m what the map has for the manager's id
  pub manager_same : (read : List ℕ) → read ≡ sb → (m : Option Mapping) → m ≡ mapped (manager_id read) → run f (manager_by c read m) ≡ run f (manager c sb mapped)
  unfolding manager
  manager_same read is m at = rw (at, is) refl

  -- the root of the object map's tree was read
  pub root_read : (x : Parts) → run f (load_parts c sb mapped) ≡ given x → run f (read_node c x.root) ≡ given (f x.root.0)
  unfolding run load_parts manager_part pool_part load_object_map
  root_read x e =
      let map = both f (load_object_map c (object_map_address sb)) _ x e in
      let manager = both f (manager c sb mapped) _ x map.rest in
      let pool = both f (load_pool c manager.first) _ x manager.rest in
      let header = both f (read_object_map c (object_map_address sb)) _ map.first map.came in
      let node = both f (read_node c header.first) _ map.first header.rest in
      let tree = both f (describe_map node.first) _ map.first node.rest in
      let same : header.first ≡ map.first = given_same _ _ tree.rest in
      let root : map.first ≡ x.root = ap (λ (y : Parts). y.root) (given_parts _ _ pool.rest) in
      rw (← root, ← same) (node.came ∙ ap given (node_given f c header.first node.first node.came))
    where
      given_same : (a b : Address) → given a ≡ given b → a ≡ b
      given_same a b e = cc

      given_parts : (a b : Parts) → given a ≡ given b → a ≡ b
      given_parts a b e = cc

  -- all areas are the definition's
  module _ (sm : List ℕ) where
    pub areas_run : (s : Marked OverlapLog) → run f (areas_from c sb sm 6 1 s) ≡ run f (claim_areas c sb mapped sm s)
    unfolding areas_from area_of superblock_area pool_area claim_areas
    areas_run s₀ =
        bind_cong f (claim c 1 _ _ s₀) _ _ (λ s₁. bind_cong f (claim c 2 _ _ s₁) _ _ (λ s₂. bind_cong f (claim c 3 _ _ s₂) _ _ (λ s₃. bind_cong f (claim c 4 _ _ s₃) _ _ (λ s₄. bind_cong f (claim c 5 _ _ s₄) _ _ (λ s₅. ap (run f) (bind_done (claim c 6 _ _ s₅)))))))

  -- the object map's nodes and mappings, once its root was read
  module _ (root : Address) (s : Marked OverlapLog) (b : List ℕ) (e : run f (read_node c root) ≡ given b) where
    pub objects_undescribed : (r : Refusal) → run f (describe b) ≡ refused r → run f (claim_objects c sb mapped root s) ≡ refused r
    unfolding claim_objects
    objects_undescribed r q = then_given f _ _ b e ∙ then_refused f _ _ r q

    pub objects_described : (d : Description) → run f (describe b) ≡ given d → run f (claim_objects c sb mapped root s) ≡ run f (walk (claim_node c object_map_node) c d root s >>= claim_mappings_and_volumes c sb mapped d b)
    unfolding claim_objects
    objects_described d q = then_given f _ _ b e ∙ then_given f _ _ d q

-- n are the superblock's bytes
pub volumes_of : (c : Container) (d : Description) (b : List ℕ) (s : Marked OverlapLog) (n sb : List ℕ) → n ≡ sb → claim_volumes c d b n s ≡ claim_volumes c d b sb s
volumes_of c d b s n sb e = rw e refl

-- a step that was done, and what is made of what it left
pub made : {F R : Type 0} {f : ℕ → List ℕ} {count : ℕ} {r : Result F Refusal} {before after : List ℕ} {p : Reads (Marked F)} (h : Stepped f count r before after p) (make : Marked F → R) (t : F) (x : R)
    → r ≡ Ok t → x ≡ make (record { map = after; figures = t }) → Stepped f count (Ok x) before after (p >>= λ o. done (record { map = o.map; figures = make o }))
unfolding run
made {F} {R} {f} {count} {r} {before} {after} {p} h make t x e is = record { goes = rw is (sym (then_given f p _ _ (stepped_ok h t e))); kept = h.kept }
