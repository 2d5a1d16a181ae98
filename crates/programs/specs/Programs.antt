-- The two programs of document 01: what goes out for what comes in.
use Rattle.std.specs.Prelude.{◌≡◌, Bool, true, false, not, ◌&&◌, ◌||◌, List, [], ◌∷◌, ℕ, ◌^◌, ltb, eqb, length, drop, Result, Ok, Err}
use Rattle.layout.specs.Layout.{Below}
use Rattle.modes.specs.declared.Mode.{Mode}
use Rattle.answers.specs.declared.Refusal.{Refusal}
use Rattle.answers.specs.declared.Refusal.TheVariants.{NoRoom, BadHeader}
use Rattle.answers.specs.Refusals.{Tested, number_of, accept, refuse, or_else}
use Rattle.answers.specs.Answers.{number_in, answer, written}
use Rattle.bodies.specs.List.{most}
use Rattle.lists.specs.Calls.{measure_refusal}
use Rattle.text.specs.Text.{decimal, line, same}
use Rattle.files.specs.Header.{Sets}
use Rattle.files.specs.Opening.{is_settings, settings_said}
use Rattle.files.specs.Calls.{list_in, read_file_refusal, file_for}
use Rattle.programs.specs.Lines.{value_lines}
use Rattle.programs.specs.kernel.Lines.{lines_in}

-- "the line `refused=` and the number"
abbrev pub refused_line : Refusal → List ℕ
refused_line k = line "refused=" (decimal (number_of k)) []

-- what a program writes: the text t, or that line where it is refused
abbrev pub output : Tested → List ℕ → List ℕ
output (Ok a) t = t
output (Err k) t = refused_line k

-- the most bytes of an input
abbrev pub limit : ℕ
limit = 65536

-- "input over 65,536 bytes, is 12, and 12 comes before any other number"
abbrev pub limit_refusal : List ℕ → Tested
limit_refusal input = refuse (ltb limit (length input)) BadHeader accept

-- what a file is refused for. There is room for 4,096 values.
abbrev pub file_refusal : List ℕ → Tested
file_refusal file = or_else (limit_refusal file) (read_file_refusal file most)

-- "One program reads such a file on standard input and writes each value in decimal on its own line, or the line `refused=` and the
-- number."
unfoldable pub list_to_text : List ℕ → List ℕ
list_to_text file = output (file_refusal file) (value_lines (list_in file))

-- "The other reads the lanes, mode and first lines and then one value a line": a sound text is what some lanes, mode, first and values
-- write
pub record IsText (text : List ℕ) (L : ℕ) (m : Mode) (vs : List ℕ) : Type 0 where
  pub sets : Sets text L m (value_lines vs)
  pub values : Below (2 ^ 32) vs

-- what stands behind the three lines, and the values of its lines
abbrev pub rest_in : List ℕ → List ℕ
rest_in text = drop (settings_said text).length text

abbrev pub values_in : List ℕ → List ℕ
values_in text = lines_in (rest_in text)

-- whether a text is sound: behind the three lines stand the lines of the values that are found there, and nothing else
unfoldable pub is_text : List ℕ → Bool
is_text text = is_settings text && same (value_lines (values_in text)) (rest_in text)

-- "Text that breaks this form anywhere .., or input over 65,536 bytes, is 12, and 12 comes before any other number": then 7 and 8
abbrev pub text_refusal : List ℕ → Tested
text_refusal text =
    or_else (limit_refusal text)
    (refuse (not (is_text text)) BadHeader
    (measure_refusal (settings_said text).lanes (settings_said text).mode (values_in text)))

-- ".. and writes a file or that same line."
unfoldable pub text_to_list : List ℕ → List ℕ
text_to_list text = output (text_refusal text) (file_for (settings_said text).lanes (settings_said text).mode (values_in text))

-- whether what is refused, or 0 for none, has one of some numbers: "Number 4 does not arise in the programs" (Claims, FileNumbers and TextNumbers)
unfoldable pub is_one : List ℕ → ℕ → Bool
is_one [] n = false
is_one (x ∷ xs) n = eqb n x || is_one xs n

abbrev pub HasOne : List ℕ → Tested → Type 0
HasOne numbers k = is_one numbers (number_in k) ≡ true

-- A call puts what goes out at the front of the caller's output, and 4 is its answer where that is too short: Claims has the room that is
-- always enough, TextRoom and FileRoom.
abbrev pub room_refusal : List ℕ → ℕ → Tested
room_refusal text room = refuse (ltb room (length text)) NoRoom accept

abbrev pub out_answer : List ℕ → ℕ → Result ℕ Refusal
out_answer text room = answer (room_refusal text room) (length text)

abbrev pub out_left : List ℕ → List ℕ → List ℕ
out_left text before = written (room_refusal text (length before)) text before
