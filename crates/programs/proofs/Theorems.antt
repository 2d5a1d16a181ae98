-- What the two programs do, there and back.
use mathlib.Core.Path.{◌≡◌, refl, sym, ◌∙◌, ap}
use mathlib.Core.Bool.{Bool, true, false, not}
use mathlib.Core.List.{List, [], ◌∷◌}
use Prim.Native.Nat.{ℕ, ◌+◌, ◌≤◌}
use native.Mathlib.Omega.{arith}
use borrow.Author.Tests.{le-ltb}
use lib.Dec.{ltb}
use lib.ListN.{length, take, length-append}
use Rattle.layout.specs.Layout.{Below}
use Rattle.std.specs.Prelude.{Result, Ok, Err, is_ok}
use Rattle.answers.specs.Answers.{number_in, over}
use Rattle.answers.proofs.Fronts.{take_over}
use Rattle.answers.specs.declared.Refusal.{Refusal}
use Rattle.answers.specs.declared.Refusal.TheVariants.{NoRoom, TooMany, OutOfOrder, BadHeader}
use Rattle.answers.specs.Refusals.{Tested, number_of, accept, accepted, refuse, or_else}
use Rattle.answers.proofs.Refusals.{apart, accepted_is, passed, both, refused, either}
use Rattle.layout.proofs.Widths.{and_both}
use Rattle.modes.specs.declared.Mode.{Mode}
use Rattle.order.specs.Order.{starting, ordered}
use Rattle.bodies.specs.List.{most, IsList}
use Rattle.bodies.specs.Body.{body_of}
use Rattle.bodies.specs.Reading.{body_refusal, list_of}
use Rattle.bodies.proofs.Sizes.{body_short}
use Rattle.bodies.proofs.Numbers.{body_only}
use Rattle.lists.specs.Calls.{measure_refusal, read_refusal}
use Rattle.lists.proofs.Accepts.{measure_exactly}
use Rattle.text.specs.Text.{word}
use Rattle.text.proofs.Lines.{number_line_short}
use Rattle.text.proofs.Beginnings.{same_is, is_same}
use Rattle.files.specs.declared.heading.Header.{Header}
use Rattle.files.specs.Header.{settings, header_text, Heads}
use Rattle.files.specs.Opening.{is_settings, settings_said, header_in, body_in, is_file}
use Rattle.files.specs.Calls.{list_in, read_file_refusal, header_for, file_for}
use Rattle.files.proofs.Lines.{settings_rest, settings_short, header_short}
use Rattle.files.proofs.Filing.{file_splits}
use Rattle.files.proofs.Theorems.{settings_back, rest_found, settings_sets, header_heads, fields_found, heads_file, body_found, opened, held, same_file, file_accepted, file_list_back}
use Rattle.programs.specs.Lines.{value_lines}
use Rattle.programs.specs.kernel.Lines.{lines_in}
use Rattle.programs.specs.Claims.{TextsExactly, TextValues, FileNumbers, TextNumbers, TextRoom, FileRoom, PrintedBack, PackedBack}
use Rattle.programs.specs.Programs.{refused_line, output, limit_refusal, file_refusal, list_to_text, IsText, rest_in, values_in, is_text, text_refusal, text_to_list, is_one, HasOne, out_answer, out_left}
use Rattle.programs.proofs.ValueLines.{lines_short}
use Rattle.programs.proofs.Found.{values_found, found_small}
use Rattle.programs.proofs.Outcomes.{list_few, printed_values}

-- sound texts

-- a sound text's lanes, mode and values are found
module _ {text : List ℕ} {L : ℕ} {m : Mode} {vs : List ℕ} (t : IsText text L m vs) where
  pub text_values : values_in text ≡ vs
  text_values = ap lines_in (rest_found t.sets) ∙ values_found vs t.values

  pub text_sound : is_text text ≡ true
  unfolding is_text
  text_sound = rw (ap is_ok (settings_back t.sets), text_values, rest_found t.sets) (is_same (value_lines vs))

-- and what is found writes the text
pub sound_text : (text : List ℕ) → is_text text ≡ true → IsText text (settings_said text).lanes (settings_said text).mode (values_in text)
unfolding is_text
sound_text text h =
    let a = and_both (is_settings text) _ h in
    let s = settings_sets text a.0 in
    let e : rest_in text ≡ value_lines (values_in text) = same_is (value_lines (values_in text)) (rest_in text) a.1 in
    record {
      sets = record { told = s.told; whole = s.whole ∙ ap (settings (settings_said text).lanes (settings_said text).mode) e };
      values = found_small (rest_in text);
    }

-- taken as sound are exactly the texts that some lanes, mode, first and values write
pub texts_exactly : TextsExactly
texts_exactly text = (λ h. ((settings_said text).lanes, ((settings_said text).mode, (values_in text, sound_text text h))), λ x. text_sound x.1.1.1)

pub values_told : TextValues
values_told text L m vs t = text_values t

-- what text_to_list writes for a sound text that is not too long: the list's file, or the first of 7 and 8 that applies
pub text_told : {text : List ℕ} {L : ℕ} {m : Mode} {vs : List ℕ} → IsText text L m vs → length text ≤ 65536 → text_to_list text ≡ output (measure_refusal L m vs) (file_for L m vs)
unfolding text_to_list
text_told {text} {L} {m} {vs} t fits =
    rw (le-ltb 65536 (length text) fits, text_sound t, text_values t, settings_back t.sets)

-- what list_to_text writes for a file that is not too long: the list's values, or the first number that reading gives
pub file_told : {file : List ℕ} {h : Header} {body : List ℕ} → Heads file h body → length file ≤ 65536
    → list_to_text file ≡ output (read_refusal h.lanes h.mode h.count body most) (value_lines (list_of h.lanes h.mode h.count body))
unfolding list_to_text
file_told {file} {h} {body} hd fits =
    rw (le-ltb 65536 (length file) fits, heads_file hd, fields_found hd, body_found hd)

-- how much goes out at most

refused_short : (k : Refusal) → length (refused_line k) ≤ 19
refused_short k = number_line_short (word "refused=") (number_of k)

output_short : (k : Tested) (t : List ℕ) (n : ℕ) → 19 ≤ n → (accepted k ≡ true → length t ≤ n) → length (output k t) ≤ n
output_short (Ok a) t n some h = h refl
output_short (Err k) t n some h = omega (arith, refused_short k)

-- 4,096 values of ten digits
pub text_short : TextRoom
unfolding list_to_text
text_short file =
    output_short (file_refusal file) (value_lines (list_in file)) 45056 (omega arith)
    (λ h. omega (arith, lines_short (list_in file), list_few file (both_is (limit_refusal file) h)))
  where
    both_is : (k : Tested) → accepted (or_else k (read_file_refusal file most)) ≡ true → accepted (read_file_refusal file most) ≡ true
    both_is k h = (both k (read_file_refusal file most) h).1

-- the longest header, and the largest body
file_length : (L : ℕ) (m : Mode) (vs : List ℕ) → accepted (measure_refusal L m vs) ≡ true → length (file_for L m vs) ≤ 16593
unfolding file_for
file_length L m vs h =
    let a = (measure_exactly L m vs).0 h in
    let e : length (file_for L m vs) ≡ length (header_text (header_for L m vs)) + length (body_of L m vs) = ap length (sym (file_splits (header_for L m vs) (body_of L m vs))) ∙ length-append (header_text (header_for L m vs)) (body_of L m vs) in
    omega (arith, e, header_short (header_for L m vs), body_short L a.lanes m vs a.few)

pub file_short : FileRoom
unfolding text_to_list
file_short text =
    output_short (text_refusal text) (file_for (settings_said text).lanes (settings_said text).mode (values_in text)) 16593 (omega arith)
    (λ h. file_length (settings_said text).lanes (settings_said text).mode (values_in text) (passed (not (is_text text)) BadHeader (measure_refusal (settings_said text).lanes (settings_said text).mode (values_in text)) (both (limit_refusal text) _ h).1).1)

-- so with that much room 4 is not the answer of a call, and all of it goes out
pub whole_answer : (t : List ℕ) (room : ℕ) → length t ≤ room → out_answer t room ≡ Ok (length t)
whole_answer t room h = rw (le-ltb room (length t) h)

pub all_out : (t : List ℕ) {n : ℕ} → length t ≤ n → {r : Result ℕ Refusal} → r ≡ out_answer t n → r ≡ Ok (length t)
all_out t {n} short e = e ∙ whole_answer t n short

pub whole_left : (t before : List ℕ) → length t ≤ length before → out_left t before ≡ over t before
whole_left t before h = rw (le-ltb (length before) (length t) h)

-- and stands at the front of the output
pub out_is : (t before : List ℕ) → length t ≤ length before → {size : ℕ} {out : List ℕ} → Ok size ≡ out_answer t (length before) → out ≡ out_left t before → take size out ≡ t
out_is t before short {size} e o =
    let q : ◌≡◌ {A = Result ℕ Refusal} (Ok size) (Ok (length t)) = all_out t short e in
    rw (o, whole_left t before short) (take_over size t before cc)

-- which numbers arise

-- from a file: 12, 7, and those of a body
pub file_numbers : FileNumbers
unfolding is_one
file_numbers file =
    either Mine (limit_refusal file) _ (refused Mine (ltb 65536 (length file)) BadHeader accept refl refl) (go (is_file file) refl)
  where
    Mine : Tested → Type 0
    Mine = HasOne (0 ∷ 12 ∷ 7 ∷ 5 ∷ 2 ∷ 10 ∷ 9 ∷ 8 ∷ 11 ∷ [])

    tests : (b : Bool) (next : Tested) → HasOne (0 ∷ 12 ∷ 7 ∷ 5 ∷ 2 ∷ 10 ∷ 9 ∷ 8 ∷ 11 ∷ []) next → HasOne (0 ∷ 12 ∷ 7 ∷ 5 ∷ 2 ∷ 10 ∷ 9 ∷ 8 ∷ 11 ∷ []) (refuse b TooMany (refuse b NoRoom next))
    tests true next h = refl
    tests false next h = h

    go : (b : Bool) → is_file file ≡ b → HasOne (0 ∷ 12 ∷ 7 ∷ 5 ∷ 2 ∷ 10 ∷ 9 ∷ 8 ∷ 11 ∷ []) (read_file_refusal file most)
    go false q = rw q
    go true q =
        rw (q, (header_heads file q).sound.told.lanes)
        (tests (ltb most (header_in file).count) (body_refusal (header_in file).lanes (starting (header_in file).mode) (header_in file).count (body_in file))
        (body_only Mine refl refl refl refl refl refl refl (header_in file).lanes (starting (header_in file).mode) (header_in file).count (body_in file)))

-- from a text: 12, 7 and 8
pub text_numbers : TextNumbers
unfolding is_one measure_refusal
text_numbers text =
    either Mine (limit_refusal text) _ (refused Mine (ltb 65536 (length text)) BadHeader accept refl refl) (go (is_text text) refl)
  where
    Mine : Tested → Type 0
    Mine = HasOne (0 ∷ 12 ∷ 7 ∷ 8 ∷ [])

    go : (b : Bool) → is_text text ≡ b → HasOne (0 ∷ 12 ∷ 7 ∷ 8 ∷ []) (refuse (not (is_text text)) BadHeader (measure_refusal (settings_said text).lanes (settings_said text).mode (values_in text)))
    go false q = rw q
    go true q =
        rw (q, (sound_text text q).sets.told.lanes)
        (refused Mine (ltb most (length (values_in text))) TooMany _ refl (refused Mine (not (ordered (starting (settings_said text).mode) (values_in text))) OutOfOrder accept refl refl))

-- "Number 4 does not arise in the programs."
pub file_not_four : (file : List ℕ) → number_in (file_refusal file) ≡ 4 → ⊥
unfolding is_one
file_not_four file e = apart (sym (sym (ap (is_one (0 ∷ 12 ∷ 7 ∷ 5 ∷ 2 ∷ 10 ∷ 9 ∷ 8 ∷ 11 ∷ [])) e) ∙ file_numbers file))

pub text_not_four : (text : List ℕ) → number_in (text_refusal text) ≡ 4 → ⊥
unfolding is_one
text_not_four text e = apart (sym (sym (ap (is_one (0 ∷ 12 ∷ 7 ∷ 8 ∷ [])) e) ∙ text_numbers text))

-- there and back

-- the text of a list, and how long it is
abbrev text_of : ℕ → Mode → List ℕ → List ℕ
text_of L m vs = settings L m (value_lines vs)

text_length : (L : ℕ) (m : Mode) (vs : List ℕ) → length vs ≤ most → length (text_of L m vs) ≤ 45102
text_length L m vs few =
    let e : length (text_of L m vs) ≡ length (settings L m []) + length (value_lines vs) = ap length (sym (settings_rest L m (value_lines vs))) ∙ length-append (settings L m []) (value_lines vs) in
    omega (arith, e, settings_short L m, lines_short vs)

-- the list of a text, packed and printed: its values
pub values_back : {text : List ℕ} {L : ℕ} {m : Mode} {vs : List ℕ} → IsText text L m vs → IsList m (length vs) vs → list_to_text (text_to_list text) ≡ value_lines vs
unfolding list_to_text
values_back {text} {L} {m} {vs} t l =
    let lanes = t.sets.told.lanes in
    let good : accepted (measure_refusal L m vs) ≡ true = (measure_exactly L m vs).1 (record { lanes = lanes; few = l.few; order = l.order }) in
    let fits : length text ≤ 65536 = rw t.sets.whole (omega (arith, text_length L m vs l.few)) in
    let f : text_to_list text ≡ file_for L m vs = text_told t fits ∙ rw (accepted_is _ good) in
    let short : length (file_for L m vs) ≤ 65536 = omega (arith, file_length L m vs good) in
    rw (f, le-ltb 65536 (length (file_for L m vs)) short, file_accepted L m vs lanes t.sets.told.first l most l.few, file_list_back L m vs lanes t.sets.told.first l)

-- a file that is read, printed and packed again: the same bytes
module _ (file : List ℕ) (bytes : Below 256 file) (h : accepted (read_file_refusal file most) ≡ true) where
  abbrev lanes : ℕ
  lanes = (header_in file).lanes

  abbrev mode : Mode
  mode = (header_in file).mode

  measures : accepted (measure_refusal (header_in file).lanes (header_in file).mode (list_in file)) ≡ true
  measures = (measure_exactly lanes mode (list_in file)).1 (record { lanes = (opened file most bytes h).sound.told.lanes; few = list_few file h; order = (held file most bytes h).list.order })

  pub printed : list_to_text file ≡ value_lines (list_in file)
  printed =
      let short : length file ≤ 65536 = rw (← same_file file most bytes h) (omega (arith, file_length lanes mode (list_in file) measures)) in
      sym (printed_values file (rw (le-ltb 65536 (length file) short) h))

  pub file_back : text_to_list (settings (header_in file).lanes (header_in file).mode (list_to_text file)) ≡ file
  file_back =
      let o = (opened file most bytes h).sound in
      let l = (held file most bytes h).list in
      let t : IsText (text_of lanes mode (list_in file)) lanes mode (list_in file) = record { sets = record { told = o.told; whole = refl }; values = l.small } in
      ap (λ (x : List ℕ). text_to_list (settings lanes mode x)) printed ∙ text_told t (omega (arith, text_length lanes mode (list_in file) (list_few file h))) ∙ rw (accepted_is _ measures) (same_file file most bytes h)

-- and so the claims
pub printed_back : PrintedBack
printed_back text L m vs t l = values_back t l

pub packed_back : PackedBack
packed_back = file_back
