-- A node that C is given, from what is built.
use mathlib.Core.Bool.{Bool, true}
use mathlib.Core.List.{List}
use mathlib.Core.Path.{◌≡◌, ap, ◌∙◌}
use Prim.Native.Nat.{ℕ}
use Rattle.std.specs.Prelude.{Result}
use Rattle.node_build.specs.declared.BuildError.{BuildError}
use Rattle.node_build.specs.declared.NodeHeader.{NodeHeader}
use Rattle.node_build.specs.declared.Sizes.{Sizes}
use Rattle.node_build.specs.declared.Sizes.TheVariants.{Fixed}
use Rattle.node_build.specs.Asked.{Made, made, build_node, built_number}
use Rattle.node_build.specs.clauses.Regions.{handed}
use Rattle.interface.specs.Node.{Numbered, sizes_of, built_for}

pub sizes_fixed : (fixed : Bool) (key value : ℕ) → fixed ≡ true → Fixed key value ≡ sizes_of fixed key value
sizes_fixed fixed key value e = rw e

pub numbered : (found : List ℕ) (h : NodeHeader) (info parts lengths : List ℕ) {z z' : Sizes} {b : Result (Unit {0}) BuildError} {n : List ℕ} {r : ℕ} → z ≡ z' → made b n ≡ build_node found (handed h z info parts lengths) → r ≡ built_number b
    → ◌≡◌ {A = Numbered} (record { number = r; node = n }) (built_for found (handed h z' info parts lengths))
numbered found h info parts lengths {z} {z'} {b} {n} {r} p q e =
    ap (λ (m : ℕ). record { number = m; node = n }) e
    ∙ ap (λ (m : Made). record { number = built_number m.answer; node = m.node }) (q ∙ ap (λ (y : Sizes). build_node found (handed h y info parts lengths)) p)
