-- What is claimed of list files: which bytes are one, and that headers, lists and files come back as they were. Each claim is proved by one
-- name (proofs/Theorems, proofs/Largest). How a header is found (kernel/Finding) need not be believed: these say what is found.
use Rattle.std.specs.Prelude.{◌≡◌, true, false, ◌↔◌, Ok, Err, List, [], ℕ, ◌^◌, ◌≤◌, ◌<◌, length}
use Rattle.answers.specs.declared.Refusal.TheVariants.{BadHeader}
use Rattle.answers.specs.Refusals.{accepted}
use Rattle.answers.specs.Answers.{over}
use Rattle.layout.specs.Layout.{Below, is_lanes}
use Rattle.bodies.specs.List.{IsList}
use Rattle.modes.specs.declared.Mode.{Mode}
use Rattle.modes.specs.Entries.{first_of}
use Rattle.lists.specs.Calls.{measure_refusal}
use Rattle.files.specs.declared.heading.Header.{Header}
use Rattle.files.specs.Header.{settings, file_of, read_back, header_text, IsHeader, Heads, Sets}
use Rattle.files.specs.Opening.{is_settings, is_headed, header_refusal, header_answer, open_answer}
use Rattle.files.specs.kernel.Finding.{settings_in, header_found}
use Rattle.files.specs.Calls.{list_in, read_file_refusal, read_file_answer, read_file_output, file_for, write_file_answer, write_file_output}

-- accepted are exactly the bytes that some header writes, with `bytes` equal to the length of what follows
abbrev pub OpensExactly : Type 0
OpensExactly = (file : List ℕ) → (accepted (header_refusal file) ≡ true) ↔ ((h : Header) × ((body : List ℕ) × Heads file h body))

-- whatever its `bytes` says, a file begins with a header exactly where some header writes its front
abbrev pub FoundExactly : Type 0
FoundExactly = (file : List ℕ) → (is_headed file ≡ true) ↔ ((h : Header) × ((body : List ℕ) × (IsHeader h × (file ≡ file_of h body))))

-- that header is the one that is found, and the body starts where its text ends; where there is none, 12 is given
abbrev pub FoundBack : Type 0
FoundBack = (file : List ℕ) (h : Header) (body : List ℕ) → IsHeader h → file ≡ file_of h body → header_found file ≡ Ok (record { header = h; start = length (header_text h) })

abbrev pub HeaderNotFound : Type 0
HeaderNotFound = (file : List ℕ) → is_headed file ≡ false → header_found file ≡ Err BadHeader

-- a header whose `bytes` agrees is what the header call hands out, and what stands behind it is what the opener hands back
abbrev pub HeaderBack : Type 0
HeaderBack = (file : List ℕ) (h : Header) (body : List ℕ) → Heads file h body → (header_answer file ≡ Ok h) × (open_answer file ≡ body)

-- a header accepted, written again, is the same bytes
abbrev pub HeaderAgain : Type 0
HeaderAgain = (file : List ℕ) → accepted (header_refusal file) ≡ true → (h : Header) × ((header_answer file ≡ Ok h) × (file ≡ file_of h (open_answer file)))

-- the lanes, mode and first lines: accepted are exactly the texts that begin with what some lanes and mode write, and those are told
abbrev pub SettingsExactly : Type 0
SettingsExactly = (text : List ℕ) → (is_settings text ≡ true) ↔ ((L : ℕ) × ((m : Mode) × ((rest : List ℕ) × Sets text L m rest)))

abbrev pub SettingsBack : Type 0
SettingsBack = (text : List ℕ) (L : ℕ) (m : Mode) (rest : List ℕ) → Sets text L m rest → settings_in text ≡ Ok (record { lanes = L; mode = m; length = length (settings L m []) })

abbrev pub SettingsNotFound : Type 0
SettingsNotFound = (text : List ℕ) → is_settings text ≡ false → settings_in text ≡ Err BadHeader

-- a header with any mode, written, is read back as it was, and with none for strict's 4,294,967,295
abbrev pub WrittenBack : Type 0
WrittenBack =
    (h : Header) (body : List ℕ) → is_lanes h.lanes ≡ true → first_of h.mode < 2 ^ 32 → h.count < 2 ^ 32 → h.bytes < 2 ^ 32 → h.bytes ≡ length body
    → Heads (file_of h body) (read_back h) body

-- given a list and room, writing is accepted and leaves exactly the list's file; that file, with room for the list, gives the list back
abbrev pub FileWritten : Type 0
FileWritten =
    (L : ℕ) (m : Mode) (vs before : List ℕ) → is_lanes L ≡ true → IsList m (length vs) vs → length (file_for L m vs) ≤ length before
    → (write_file_answer L m vs (length before) ≡ Ok (length (file_for L m vs))) × (write_file_output L m vs before ≡ over (file_for L m vs) before)

abbrev pub ListBack : Type 0
ListBack =
    (L : ℕ) (m : Mode) (vs : List ℕ) → is_lanes L ≡ true → first_of m < 2 ^ 32 → IsList m (length vs) vs → (out : List ℕ) → length vs ≤ length out
    → (read_file_answer (file_for L m vs) (length out) ≡ Ok (length vs)) × (read_file_output (file_for L m vs) out ≡ over vs out)

-- a file is what the writer writes for the list vs
pub record Files (file : List ℕ) (L : ℕ) (m : Mode) (vs : List ℕ) : Type 0 where
  pub lanes : is_lanes L ≡ true
  pub first : first_of m < 2 ^ 32
  pub list : IsList m (length vs) vs
  pub whole : file ≡ file_for L m vs

-- a file is read, with room for its list, exactly when it is what the writer writes for some list; that list is the only one, and is read
abbrev pub ReadExactly : Type 0
ReadExactly =
    (file : List ℕ) (room : ℕ) → Below 256 file
    → (accepted (read_file_refusal file room) ≡ true) ↔ ((L : ℕ) × ((m : Mode) × ((vs : List ℕ) × (Files file L m vs × (length vs ≤ room)))))

abbrev pub ReadOnly : Type 0
ReadOnly = (file : List ℕ) (L : ℕ) (m : Mode) (vs : List ℕ) → Files file L m vs → list_in file ≡ vs

-- a file accepted, written again from what was read with what the header call handed out, is the same bytes
abbrev pub FileAgain : Type 0
FileAgain =
    (file : List ℕ) (room : ℕ) → Below 256 file → accepted (read_file_refusal file room) ≡ true
    → (h : Header) × ((header_answer file ≡ Ok h) × ((before : List ℕ) → length file ≤ length before → write_file_output h.lanes h.mode (list_in file) before ≡ over file before))

-- no file is longer than 16,566 bytes
abbrev pub LargestFile : Type 0
LargestFile = (L : ℕ) (m : Mode) (vs : List ℕ) → accepted (measure_refusal L m vs) ≡ true → first_of m < 2 ^ 32 → Below (2 ^ 32) vs → length (file_for L m vs) ≤ 16566
