-- What is claimed of texts and of the programs: which texts are sound and which values are found in them, which numbers come out, how long
-- what comes out is, and that lists and files come back (proofs/Theorems). How the values are found (kernel/Lines) need not be believed.
use Rattle.std.specs.Prelude.{◌≡◌, true, ◌↔◌, List, [], ◌∷◌, ℕ, ◌≤◌, length}
use Rattle.answers.specs.Refusals.{accepted}
use Rattle.layout.specs.Layout.{Below}
use Rattle.modes.specs.declared.Mode.{Mode}
use Rattle.bodies.specs.List.{most, IsList}
use Rattle.files.specs.Header.{settings}
use Rattle.files.specs.Opening.{header_in}
use Rattle.files.specs.Calls.{read_file_refusal}
use Rattle.programs.specs.Lines.{value_lines}
use Rattle.programs.specs.Programs.{file_refusal, list_to_text, IsText, values_in, is_text, text_refusal, text_to_list, HasOne}

-- taken as sound are exactly the texts that some lanes, mode, first and values write
abbrev pub TextsExactly : Type 0
TextsExactly = (text : List ℕ) → (is_text text ≡ true) ↔ ((L : ℕ) × ((m : Mode) × ((vs : List ℕ) × IsText text L m vs)))

-- and those values are found. (That the lanes and the mode are: files/specs/Claims, SettingsBack.)
abbrev pub TextValues : Type 0
TextValues = (text : List ℕ) (L : ℕ) (m : Mode) (vs : List ℕ) → IsText text L m vs → values_in text ≡ vs

-- "Number 4 does not arise in the programs": none but these does, and 0 stands for none
abbrev pub FileNumbers : Type 0
FileNumbers = (file : List ℕ) → HasOne (0 ∷ 12 ∷ 7 ∷ 5 ∷ 2 ∷ 10 ∷ 9 ∷ 8 ∷ 11 ∷ []) (file_refusal file)

abbrev pub TextNumbers : Type 0
TextNumbers = (text : List ℕ) → HasOne (0 ∷ 12 ∷ 7 ∷ 8 ∷ []) (text_refusal text)

-- the room that is always enough: 4,096 lines of ten digits; the longest header and the largest body
abbrev pub TextRoom : Type 0
TextRoom = (file : List ℕ) → length (list_to_text file) ≤ 45056

abbrev pub FileRoom : Type 0
FileRoom = (text : List ℕ) → length (text_to_list text) ≤ 16593

-- the list of a text, packed and printed, is its values; a file that is read, printed and packed again is the same bytes
abbrev pub PrintedBack : Type 0
PrintedBack = (text : List ℕ) (L : ℕ) (m : Mode) (vs : List ℕ) → IsText text L m vs → IsList m (length vs) vs → list_to_text (text_to_list text) ≡ value_lines vs

abbrev pub PackedBack : Type 0
PackedBack = (file : List ℕ) → Below 256 file → accepted (read_file_refusal file most) ≡ true → text_to_list (settings (header_in file).lanes (header_in file).mode (list_to_text file)) ≡ file
