-- The values of the lines that bytes begin with. Nobody need believe this: the lines of the values that are found so are held against the
-- bytes themselves (Programs, is_text), and what some values write is found so (Claims, TextValues).
use Rattle.std.specs.Prelude.{cond, List, [], ◌∷◌, ℕ, zero, suc, length, drop, Option, Some, None}
use Rattle.text.specs.declared.Numeral.{Numeral}
use Rattle.text.specs.Text.{same, number_line}
use Rattle.programs.specs.Lines.{value_lines}

-- the value of a line that was found, and those behind it
abbrev pub value_and : Option Numeral → (Numeral → List ℕ) → List ℕ
value_and None behind = []
value_and (Some l) behind = l.value ∷ behind l

-- line after line, as long as the bytes begin with the line of a number; at most `most` of them
unfoldable pub lines_from : ℕ → List ℕ → List ℕ
lines_from zero bs = []
lines_from (suc most) bs = value_and (number_line [] bs) (λ l. lines_from most (drop l.length bs))

abbrev pub lines_in : List ℕ → List ℕ
lines_in bs = lines_from (length bs) bs

-- how many there are, where their lines are all that there is
abbrev pub counted : List ℕ → Option ℕ
counted bs = cond (same (value_lines (lines_in bs)) bs) (Some (length (lines_in bs))) None
