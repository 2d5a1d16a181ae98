-- Opening a list file. A file begins with a header where its lines are found one behind another (kernel/Finding), and is one where `bytes` is
-- the length of what follows. That this accepts exactly the files that some header writes is a claim (Claims, OpensExactly).
use Rattle.std.specs.Prelude.{Bool, not, ◌&&◌, cond, Result, is_ok, List, [], ℕ, eqb, length, drop}
use Rattle.std.specs.Result.{result_unwrap_or}
use Rattle.answers.specs.declared.Refusal.{Refusal}
use Rattle.answers.specs.declared.Refusal.TheVariants.{BadHeader}
use Rattle.answers.specs.Refusals.{Tested, accept, refuse}
use Rattle.answers.specs.Answers.{answer}
use Rattle.modes.specs.declared.Mode.TheVariants.{Plain}
use Rattle.files.specs.declared.heading.Header.{Header}
use Rattle.files.specs.declared.heading.Settings.{Settings}
use Rattle.files.specs.declared.Found.{Found}
use Rattle.files.specs.kernel.Finding.{settings_in, header_found}

-- whether a text or a file begins with the lanes, mode and first lines
abbrev pub is_settings : List ℕ → Bool
is_settings text = is_ok (settings_in text)

-- what they say, and how long they are. (Of a text that does not begin with them nothing is told: 0 and plain are no more than a value.)
abbrev pub settings_said : List ℕ → Settings
settings_said text = result_unwrap_or (settings_in text) (record { lanes = 0; mode = Plain; length = 0 })

-- whether a file begins with a header, whatever its `bytes` says
abbrev pub is_headed : List ℕ → Bool
is_headed file = is_ok (header_found file)

-- which it is, and where the body starts behind it. (In the same way.)
abbrev pub found_in : List ℕ → Found
found_in file = result_unwrap_or (header_found file) (record { header = record { lanes = 0; mode = Plain; count = 0; bytes = 0 }; start = 0 })

abbrev pub header_in : List ℕ → Header
header_in file = (found_in file).header

-- "from after the empty line to the end"
abbrev pub body_in : List ℕ → List ℕ
body_in file = drop (found_in file).start file

unfoldable pub is_file : List ℕ → Bool
is_file file = is_headed file && eqb (header_in file).bytes (length (body_in file))

-- "12 .. header is not as above, or `bytes` is not the body's length"
abbrev pub header_refusal : List ℕ → Tested
header_refusal file = refuse (not (is_file file)) BadHeader accept

-- the header of a file that is one, and where its body starts
abbrev pub file_found : List ℕ → Result Found Refusal
file_found file = answer (header_refusal file) (found_in file)

-- the header call
abbrev pub header_answer : List ℕ → Result Header Refusal
header_answer file = answer (header_refusal file) (header_in file)

-- "The body is handed back as a part of the caller's file bytes .. where that is given it hands back the empty part"
abbrev pub open_answer : List ℕ → List ℕ
open_answer file = cond (is_file file) (body_in file) []
