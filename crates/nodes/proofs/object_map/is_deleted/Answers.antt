use Rattle.fields.specs.Fields.{num, bit}
use mathlib.Core.Path.{ap, ◌∙◌}
use mathlib.Core.List.{List}
use Prim.Native.Nat.{ℕ}
use Rattle.nodes.proofs.object_map.is_deleted.Goals as goal

pub returns : goal.returns
returns c = c.has_bit.ensures ∙ ap (bit 0) (c.u32_of.ensures.is ∙ ap (λ (v : List ℕ). num 4 v 0) c.part_of-bytes.ensures)
