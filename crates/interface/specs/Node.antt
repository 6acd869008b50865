-- A node as C asks for it, in numbers; and the answer as a number.
use Rattle.std.specs.Prelude.{Bool, true, false, List, ℕ}
use Rattle.node_build.specs.declared.NodeHeader.{NodeHeader}
use Rattle.node_build.specs.declared.Sizes.{Sizes}
use Rattle.node_build.specs.declared.Sizes.TheVariants.{Fixed, Variable}
use Rattle.node_build.specs.Asked.{Handed, build_node, built_number}

abbrev pub header : ℕ → ℕ → ℕ → ℕ → ℕ → Bool → NodeHeader
header oid xid type subtype level root = record { oid = oid; xid = xid; obj_type = type; subtype = subtype; level = level; root = root }

-- sizes are looked at only where they are fixed
abbrev pub sizes_of : Bool → ℕ → ℕ → Sizes
sizes_of true key value = Fixed key value
sizes_of false key value = Variable

-- a number, and the lent node after it
pub record Numbered : Type 0 where
  pub number : ℕ
  pub node : List ℕ

-- document 02's answer to a request
abbrev pub built_for : List ℕ → Handed → Numbered
built_for found h = let m = build_node found h in record { number = built_number m.answer; node = m.node }
