-- What is claimed of what crosses to C: it loses nothing (proofs/Theorems).
use Rattle.std.specs.Prelude.{◌≡◌, true, List, ℕ, ◌+◌, ◌≤◌, length, drop, take, Some}
use Rattle.modes.specs.declared.Mode.{Mode}
use Rattle.answers.specs.Refusals.{Tested}
use Rattle.answers.specs.Answers.{number_in}
use Rattle.files.specs.Opening.{is_file, open_answer}
use Rattle.sisalshed.specs.Crossing.{mode_of, kind_of, first_given}
use Rattle.sisalshed.specs.Calls.{body_crossed}

-- a mode comes back from its two numbers
abbrev pub ModeBack : Type 0
ModeBack = (m : Mode) → mode_of (kind_of m) (first_given m) ≡ Some m

-- the bytes that the answer of the body call points at are the part that document 01 hands back, and go to the end of the file
abbrev pub PartIsBody : Type 0
PartIsBody = (file : List ℕ) → take (body_crossed file).length (drop (body_crossed file).start file) ≡ open_answer file

abbrev pub PartToTheEnd : Type 0
PartToTheEnd = (file : List ℕ) → is_file file ≡ true → (body_crossed file).start + (body_crossed file).length ≡ length file

-- the numbers are those of the C header's enum; no two outcomes have one (answers/specs/Claims)
abbrev pub NumberKnown : Type 0
NumberKnown = (k : Tested) → number_in k ≤ 12
