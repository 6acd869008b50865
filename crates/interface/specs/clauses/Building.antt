-- A node that C is given.
use Rattle.std.specs.Prelude.{◌≡◌, ℕ}
use Rattle.blocks.specs.clauses.Images.{Lent, bytes, LentMut, bytes_lent}
use Rattle.node_build.specs.declared.NodeHeader.{NodeHeader}
use Rattle.node_build.specs.declared.Sizes.{Sizes}
use Rattle.node_build.specs.clauses.Regions.{handed}
use Rattle.interface.specs.Node.{Numbered, built_for}

-- the number that is answered and the whole lent node are the definition's
abbrev pub Builds : LentMut → ℕ → NodeHeader → Sizes → Lent → Lent → Lent → Type 0
Builds node r h z info parts lengths =
    ◌≡◌ {A = Numbered} (record { number = r; node = node.exit.now }) (built_for (bytes_lent node) (handed h z (bytes info) (bytes parts) (bytes lengths)))
