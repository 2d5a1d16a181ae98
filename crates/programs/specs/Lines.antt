-- One value a line.
use Rattle.std.specs.Prelude.{List, [], ◌∷◌, ℕ}
use Rattle.text.specs.Text.{decimal, ended}

-- the line of a value, with the rest of a text behind it
abbrev pub value_line : ℕ → List ℕ → List ℕ
value_line v rest = ended (decimal v) rest

-- "each value in decimal on its own line"
unfoldable pub value_lines : List ℕ → List ℕ
value_lines [] = []
value_lines (v ∷ vs) = value_line v (value_lines vs)
