-- Each call across the boundary to C: what it answers, and what it leaves in lent memory. It is what our own call of that name answers
-- and leaves, for the mode of the kind; a kind that there is not is 12, and leaves memory as it was.
use Rattle.std.specs.Prelude.{List, ℕ, length, Result, Ok, Err}
use Rattle.answers.specs.declared.Refusal.{Refusal}
use Rattle.answers.specs.Refusals.{number_of}
use Rattle.answers.specs.Answers.{number_in}
use Rattle.blocks.specs.Calls.{size_answer, pack_answer, pack_output, unpack_answer, unpack_output, width_answer}
use Rattle.lists.specs.Calls.{measure_answer, write_answer, write_output, read_answer, read_output}
use Rattle.files.specs.declared.heading.Header.{Header}
use Rattle.files.specs.declared.Found.{Found}
use Rattle.files.specs.Opening.{file_found, header_answer, open_answer}
use Rattle.files.specs.Calls.{read_file_answer, read_file_output, write_file_answer, write_file_output}
use Rattle.sisalshed.specs.declared.CAnswer.{CAnswer}
use Rattle.sisalshed.specs.declared.CHeader.{CHeader}
use Rattle.sisalshed.specs.declared.CBody.{CBody}
use Rattle.sisalshed.specs.Crossing.{kind_of, first_given, crossed, bad_kind, by_kind}

-- blocks
abbrev pub size_crossed : ℕ → ℕ → CAnswer
size_crossed L n = crossed (size_answer L n)

abbrev pub pack_crossed : ℕ → ℕ → ℕ → List ℕ → ℕ → ℕ → CAnswer
pack_crossed L kind first vs room n = by_kind kind first (λ m. crossed (pack_answer L m vs room n)) bad_kind

abbrev pub pack_left : ℕ → ℕ → ℕ → List ℕ → List ℕ → ℕ → List ℕ
pack_left L kind first vs before n = by_kind kind first (λ m. pack_output L m vs before n) before

abbrev pub unpack_crossed : ℕ → ℕ → ℕ → ℕ → ℕ → ℕ → CAnswer
unpack_crossed L kind first size room n = by_kind kind first (λ m. crossed (unpack_answer L size room n)) bad_kind

abbrev pub unpack_left : ℕ → ℕ → ℕ → List ℕ → List ℕ → ℕ → List ℕ
unpack_left L kind first bs before n = by_kind kind first (λ m. unpack_output L m bs before n) before

abbrev pub width_crossed : ℕ → ℕ → ℕ → List ℕ → CAnswer
width_crossed L kind first vs = by_kind kind first (λ m. crossed (width_answer L m vs)) bad_kind

-- lists
abbrev pub measure_crossed : ℕ → ℕ → ℕ → List ℕ → CAnswer
measure_crossed L kind first vs = by_kind kind first (λ m. crossed (measure_answer L m vs)) bad_kind

abbrev pub write_list_crossed : ℕ → ℕ → ℕ → List ℕ → ℕ → CAnswer
write_list_crossed L kind first vs room = by_kind kind first (λ m. crossed (write_answer L m vs room)) bad_kind

abbrev pub write_list_left : ℕ → ℕ → ℕ → List ℕ → List ℕ → List ℕ
write_list_left L kind first vs before = by_kind kind first (λ m. write_output L m vs before) before

abbrev pub read_list_crossed : ℕ → ℕ → ℕ → ℕ → List ℕ → ℕ → CAnswer
read_list_crossed L kind first count bs room = by_kind kind first (λ m. crossed (read_answer L m count bs room)) bad_kind

abbrev pub read_list_left : ℕ → ℕ → ℕ → ℕ → List ℕ → List ℕ → List ℕ
read_list_left L kind first count bs before = by_kind kind first (λ m. read_output L m count bs before) before

-- files. Beside 12 the rest is 0.
abbrev pub header_from : Result Header Refusal → CHeader
header_from (Ok h) = record { number = 0; lanes = h.lanes; kind = kind_of h.mode; first = first_given h.mode; count = h.count; bytes = h.bytes }
header_from (Err k) = record { number = number_of k; lanes = 0; kind = 0; first = 0; count = 0; bytes = 0 }

abbrev pub start_in : Result Found Refusal → ℕ
start_in (Ok f) = f.start
start_in (Err k) = 0

abbrev pub header_crossed : List ℕ → CHeader
header_crossed file = header_from (header_answer file)

-- "from after the empty line to the end": where the body starts, and how long the part is that is handed back
abbrev pub body_crossed : List ℕ → CBody
body_crossed file = record { number = number_in (file_found file); start = start_in (file_found file); length = length (open_answer file) }

abbrev pub read_file_crossed : List ℕ → ℕ → CAnswer
read_file_crossed file room = crossed (read_file_answer file room)

abbrev pub read_file_left : List ℕ → List ℕ → List ℕ
read_file_left file before = read_file_output file before

abbrev pub write_file_crossed : ℕ → ℕ → ℕ → List ℕ → ℕ → CAnswer
write_file_crossed L kind first vs room = by_kind kind first (λ m. crossed (write_file_answer L m vs room)) bad_kind

abbrev pub write_file_left : ℕ → ℕ → ℕ → List ℕ → List ℕ → List ℕ
write_file_left L kind first vs before = by_kind kind first (λ m. write_file_output L m vs before) before
