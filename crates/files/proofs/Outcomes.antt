-- The ways out of finding a file, and of reading one that is none.
use mathlib.Core.Path.{◌≡◌, refl, sym, ◌∙◌, ap}
use mathlib.Core.Bool.{Bool, true, false, not}
use mathlib.Core.List.{List}
use Prim.Native.Nat.{ℕ, ◌-◌}
use borrow.Author.Tests.{ne_eqb}
use lib.ListN.{length, drop, length-drop}
use Rattle.std.specs.Prelude.{Result, Ok, Err, is_ok, Option, Some, None}
use Rattle.std.specs.Option.{ok_or, option_and_then}
use Rattle.std.specs.Result.{result_unwrap_or}
use Rattle.answers.specs.declared.Refusal.{Refusal}
use Rattle.answers.specs.declared.Refusal.TheVariants.{BadHeader}
use Rattle.answers.specs.Refusals.{accept, refuse}
use Rattle.answers.proofs.Answers.{refuses}
use Rattle.files.specs.declared.Found.{Found}
use Rattle.files.specs.declared.heading.Settings.{Settings}
use Rattle.files.specs.kernel.Finding.{header_found, header_lines_in, settings_lines_in, behind_settings}
use Rattle.files.specs.Opening.{is_settings, is_headed, found_in, header_in, body_in, is_file, header_refusal, file_found}
use Rattle.files.specs.Calls.{read_file_answer, read_file_output}

unwrapped : {r : Result Found Refusal} {f : Found} (d : Found) → r ≡ Ok f → result_unwrap_or r d ≡ f
unwrapped d e = rw e refl

-- where no lanes, mode and first lines are found, there is no header
pub no_settings_lem : (file : List ℕ) → is_settings file ≡ false → header_found file ≡ Err BadHeader
unfolding header_lines_in
no_settings_lem file h = go (settings_lines_in file) h
  where
    go : (o : Option Settings) → is_ok (ok_or o BadHeader) ≡ false → ok_or (option_and_then (behind_settings file) o) BadHeader ≡ Err BadHeader
    go None h = refl
    go (Some s) h = absurd cc

-- what follows the header that was found
pub counted : (file : List ℕ) {f : Found} → header_found file ≡ Ok f → length (body_in file) ≡ length file - f.start
counted file {f} e = ap (λ (g : Found). length (drop g.start file)) (unwrapped _ e) ∙ length-drop f.start file

-- a header that says another length than what follows has
pub other_bytes : (file : List ℕ) {f : Found} → header_found file ≡ Ok f → (f.header.bytes ≡ length file - f.start → ⊥) → file_found file ≡ Err BadHeader
unfolding is_file
other_bytes file {f} e h =
    let headed : is_headed file ≡ true = ap is_ok e in
    let found : found_in file ≡ f = unwrapped _ e in
    let said : (header_in file).bytes ≡ f.header.bytes = ap (λ (g : Found). g.header.bytes) found in
    rw (headed, ne_eqb (header_in file).bytes (length (body_in file)) (λ q. h (sym said ∙ q ∙ counted file e))) refl

-- what is no file is 12, and leaves the output as it was
pub bad_file : (file : List ℕ) {k : Refusal} → file_found file ≡ Err k → (before : List ℕ)
    → (k ≡ BadHeader) × (read_file_answer file (length before) ≡ Err k) × (before ≡ read_file_output file before)
bad_file file {k} h before =
    let t : header_refusal file ≡ Err k = refuses (header_refusal file) (found_in file) h in
    (twelve (not (is_file file)) t, rw t refl, rw t refl)
  where
    twelve : (b : Bool) → refuse b BadHeader accept ≡ Err k → k ≡ BadHeader
    twelve true e = cc
    twelve false e = absurd cc
