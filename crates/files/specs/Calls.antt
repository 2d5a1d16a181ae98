-- Reading and writing a list file: which refusal is given, what is answered, and what is left in lent memory.
use Rattle.std.specs.Prelude.{Result, List, ℕ, length}
use Rattle.modes.specs.declared.Mode.{Mode}
use Rattle.answers.specs.declared.Refusal.{Refusal}
use Rattle.answers.specs.Refusals.{Tested, or_else}
use Rattle.answers.specs.Answers.{answer, written}
use Rattle.bodies.specs.Body.{body_of}
use Rattle.bodies.specs.Reading.{list_of}
use Rattle.lists.specs.Calls.{writing_refusal, read_refusal}
use Rattle.files.specs.declared.heading.Header.{Header}
use Rattle.files.specs.Header.{file_of}
use Rattle.files.specs.Opening.{header_in, body_in, header_refusal}

-- the list that a file holds
abbrev pub list_in : List ℕ → List ℕ
list_in file = list_of (header_in file).lanes (header_in file).mode (header_in file).count (body_in file)

-- "Read a file: 12, then as a list", with an output of `room` values
abbrev pub read_file_refusal : List ℕ → ℕ → Tested
read_file_refusal file room = or_else (header_refusal file) (read_refusal (header_in file).lanes (header_in file).mode (header_in file).count (body_in file) room)

abbrev pub read_file_answer : List ℕ → ℕ → Result ℕ Refusal
read_file_answer file room = answer (read_file_refusal file room) (header_in file).count

abbrev pub read_file_output : List ℕ → List ℕ → List ℕ
read_file_output file before = written (read_file_refusal file (length before)) (list_in file) before

-- the file of the list vs
abbrev pub header_for : ℕ → Mode → List ℕ → Header
header_for L m vs = record { lanes = L; mode = m; count = length vs; bytes = length (body_of L m vs) }

unfoldable pub file_for : ℕ → Mode → List ℕ → List ℕ
file_for L m vs = file_of (header_for L m vs) (body_of L m vs)

-- "Write a file: 1, 7, 8, 4, with room for header and body"
abbrev pub write_file_refusal : ℕ → Mode → List ℕ → ℕ → Tested
write_file_refusal L m vs room = writing_refusal L m vs (length (file_for L m vs)) room

abbrev pub write_file_answer : ℕ → Mode → List ℕ → ℕ → Result ℕ Refusal
write_file_answer L m vs room = answer (write_file_refusal L m vs room) (length (file_for L m vs))

abbrev pub write_file_output : ℕ → Mode → List ℕ → List ℕ → List ℕ
write_file_output L m vs before = written (write_file_refusal L m vs (length before)) (file_for L m vs) before
