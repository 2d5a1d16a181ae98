-- What crosses loses nothing.
use mathlib.Core.Path.{◌≡◌, refl, sym, ◌∙◌, ap}
use mathlib.Core.Bool.{Bool, true, false, not}
use mathlib.Core.List.{List}
use Rattle.std.specs.Prelude.{Ok, Err}
use Rattle.answers.proofs.Answers.{passes}
use Rattle.files.specs.declared.Found.{Found}
use Prim.Native.Nat.{ℕ, ◌+◌, ◌-◌}
use native.Mathlib.Omega.{arith}
use lib.ListN.{length, drop, take, length-append, length-drop}
use lib.Seq.{take-length}
use Rattle.modes.specs.declared.Initial.TheVariants.{None, Number}
use Rattle.modes.specs.declared.Mode.TheVariants.{Plain, Sorted, Strict}
use Rattle.answers.specs.declared.Refusal.TheVariants.{BadLanes, BadWidth, BadBlock, NoRoom, CutShort, TooWide, TooMany, OutOfOrder, NotLeast, BadFill, LeftOver, BadHeader}
use Rattle.answers.specs.Refusals.{accept, refuse}
use Rattle.files.specs.Header.{header_text}
use Rattle.files.specs.Opening.{is_headed, found_in, header_in, body_in, is_file, header_refusal, file_found, open_answer}
use Rattle.files.proofs.Filing.{file_splits}
use Rattle.files.proofs.Theorems.{filed, found_start, found_whole}
use Rattle.sisalshed.specs.Calls.{body_crossed}
use Rattle.sisalshed.specs.Claims.{ModeBack, PartIsBody, PartToTheEnd, NumberKnown}

-- a mode comes back from its two numbers
pub mode_back : ModeBack
mode_back Plain = refl
mode_back (Sorted f) = refl
mode_back (Strict None) = refl
mode_back (Strict (Number f)) = refl

-- the bytes that the answer points at are the part that document 01 hands back
pub part_is_body : PartIsBody
part_is_body file = go (is_file file) refl
  where
    go : (b : Bool) → is_file file ≡ b → take (body_crossed file).length (drop (body_crossed file).start file) ≡ open_answer file
    go true e = rw e (take-length (body_in file))
    go false e = rw e refl

-- and go to the end of the file, which is the header's text and the body
pub part_to_the_end : PartToTheEnd
part_to_the_end file f =
    let headed : is_headed file ≡ true = (filed file f).headed in
    rw f
    (ap (λ (n : ℕ). n + length (body_in file)) (found_start file headed) ∙ sym (length-append (header_text (header_in file)) (body_in file))
    ∙ ap length (file_splits (header_in file) (body_in file) ∙ sym (found_whole file headed)))

-- where the body of a file that is one stands
pub some_body : (file : List ℕ) {f : Found} → file_found file ≡ Ok f → body_crossed file ≡ record { number = 0; start = f.start; length = length file - f.start }
some_body file {f} h =
    let p = passes (header_refusal file) (found_in file) h in
    rw (h, size (is_file file) refl p.0) (ap (λ (n : ℕ). record { number = 0; start = f.start; length = n }) (length-drop (found_in file).start file ∙ rw p.1 refl))
  where
    size : (b : Bool) → is_file file ≡ b → refuse (not b) BadHeader accept ≡ accept → open_answer file ≡ body_in file
    size true e q = rw e refl
    size false e q = absurd cc

-- the numbers are those of the header's enum
pub number_known : NumberKnown
number_known (Ok t) = omega arith
number_known (Err BadLanes) = omega arith
number_known (Err BadWidth) = omega arith
number_known (Err BadBlock) = omega arith
number_known (Err NoRoom) = omega arith
number_known (Err CutShort) = omega arith
number_known (Err TooWide) = omega arith
number_known (Err TooMany) = omega arith
number_known (Err OutOfOrder) = omega arith
number_known (Err NotLeast) = omega arith
number_known (Err BadFill) = omega arith
number_known (Err LeftOver) = omega arith
number_known (Err BadHeader) = omega arith
