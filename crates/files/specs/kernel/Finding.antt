-- The lines of a header that some bytes begin with, and how long they are, if they are there. Each is looked for where the one before ends.
-- Nobody need believe this: what is found is there, and what some header writes is found (Claims: FoundExactly, FoundBack, SettingsExactly,
-- SettingsBack).
use Rattle.std.specs.Prelude.{cond, Option, Some, None, Result, List, [], ◌∷◌, ℕ, ◌+◌, eqb, length, drop, option_map, option_and_then, ok_or}
use Rattle.std.specs.Option.{option_or}
use Rattle.layout.specs.Layout.{is_lanes}
use Rattle.answers.specs.declared.Refusal.{Refusal}
use Rattle.answers.specs.declared.Refusal.TheVariants.{BadHeader}
use Rattle.modes.specs.declared.Initial.TheVariants as initial
use Rattle.modes.specs.declared.Mode.{Mode}
use Rattle.modes.specs.declared.Mode.TheVariants.{Plain, Sorted, Strict}
use Rattle.text.specs.declared.Numeral.{Numeral}
use Rattle.text.specs.Text.{word, decimal, line, begins, number_line}
use Rattle.files.specs.declared.finding.ModeLines.{ModeLines}
use Rattle.files.specs.declared.finding.SizeLines.{SizeLines}
use Rattle.files.specs.declared.heading.Settings.{Settings}
use Rattle.files.specs.declared.Found.{Found}
use Rattle.files.specs.Header.{mode_word, first_text}

-- the mode and first lines
abbrev pub mode_text : Mode → List ℕ
mode_text m = line "mode=" (mode_word m) (line "first=" (first_text m) [])

-- with none behind `first=`
abbrev pub none_lines : Mode → ModeLines
none_lines m = record { mode = m; length = length (mode_text m) }

-- with a number
abbrev pub sorted_name : List ℕ
sorted_name = line "mode=" (word "sorted") (word "first=")

abbrev pub sorted_lines : Numeral → ModeLines
sorted_lines n = record { mode = Sorted n.value; length = n.length }

abbrev pub strict_name : List ℕ
strict_name = line "mode=" (word "strict") (word "first=")

-- 4,294,967,295 is not written so
abbrev pub strict_lines : Numeral → Option ModeLines
strict_lines n = cond (eqb n.value 4294967295) None (Some (record { mode = Strict (initial.Number n.value); length = n.length }))

unfoldable pub mode_lines_in : List ℕ → Option ModeLines
mode_lines_in bs =
    cond (begins (mode_text Plain) bs) (Some (none_lines Plain))
    (cond (begins (mode_text (Strict initial.None)) bs) (Some (none_lines (Strict initial.None)))
    (option_or (option_map sorted_lines (number_line sorted_name bs))
    (option_and_then strict_lines (number_line strict_name bs))))

-- the lanes line, and those behind it
abbrev pub settings_of : Numeral → ModeLines → Settings
settings_of l m = record { lanes = l.value; mode = m.mode; length = l.length + m.length }

abbrev pub behind_lanes : List ℕ → Numeral → Option Settings
behind_lanes bs l = cond (is_lanes l.value) (option_map (settings_of l) (mode_lines_in (drop l.length bs))) None

unfoldable pub settings_lines_in : List ℕ → Option Settings
settings_lines_in bs = option_and_then (behind_lanes bs) (number_line (word "lanes=") bs)

-- the count and bytes lines, and the empty line
abbrev pub size_text : ℕ → ℕ → List ℕ
size_text count bytes = line "count=" (decimal count) (line "bytes=" (decimal bytes) (10 ∷ []))

abbrev pub behind_bytes : List ℕ → Numeral → Numeral → Option SizeLines
behind_bytes bs c b =
    let end = c.length + b.length in
    cond (begins (10 ∷ []) (drop end bs)) (Some (record { count = c.value; bytes = b.value; length = end + 1 })) None

abbrev pub behind_count : List ℕ → Numeral → Option SizeLines
behind_count bs c = option_and_then (behind_bytes bs c) (number_line (word "bytes=") (drop c.length bs))

unfoldable pub size_lines_in : List ℕ → Option SizeLines
size_lines_in bs = option_and_then (behind_count bs) (number_line (word "count=") bs)

-- all of them
abbrev pub header_of : Settings → SizeLines → Found
header_of s z = record { header = record { lanes = s.lanes; mode = s.mode; count = z.count; bytes = z.bytes }; start = s.length + z.length }

abbrev pub behind_settings : List ℕ → Settings → Option Found
behind_settings bs s = option_map (header_of s) (size_lines_in (drop s.length bs))

unfoldable pub header_lines_in : List ℕ → Option Found
header_lines_in bs = option_and_then (behind_settings bs) (settings_lines_in bs)

-- and 12 where they are not there
abbrev pub settings_in : List ℕ → Result Settings Refusal
settings_in text = ok_or (settings_lines_in text) BadHeader

abbrev pub header_found : List ℕ → Result Found Refusal
header_found file = ok_or (header_lines_in file) BadHeader
