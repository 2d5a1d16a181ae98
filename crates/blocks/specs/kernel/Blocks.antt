-- Blocks of values: what finding the width and packing take.
use Rattle.std.specs.Prelude.{not, List, ℕ, eqb}
use Rattle.answers.specs.declared.Refusal.TheVariants.{BadBlock}
use Rattle.answers.specs.Refusals.{Tested, accept, refuse}
use Rattle.layout.specs.Layout.{at, block_size}
use Rattle.modes.specs.declared.Mode.{Mode}
use Rattle.modes.specs.Entries.{entries}

-- the lanes and the mode of a block, and its values
pub record BlockParts : Type 0 where
  pub lanes : ℕ
  pub mode : Mode
  pub values : List ℕ

abbrev pub entries_in : BlockParts → ℕ → ℕ
entries_in b = entries b.mode (at b.values)

-- "3": so many values are not exactly a block
abbrev pub block_refusal : ℕ → ℕ → Tested
block_refusal L count = refuse (not (eqb count (block_size L))) BadBlock accept
