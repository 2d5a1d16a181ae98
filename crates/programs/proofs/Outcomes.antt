-- The ways out of the two programs.
use mathlib.Core.Path.{◌≡◌, refl, sym, ◌∙◌, ap}
use mathlib.Core.Bool.{Bool, true, false, not}
use mathlib.Core.List.{List}
use Prim.Native.Nat.{ℕ, ◌≤◌, ◌<◌}
use native.Mathlib.Omega.{arith}
use borrow.Author.Tests.{lt-ltb, le-ltb}
use lib.Dec.{ltb}
use lib.ListN.{length, take}
use lib.Seq.{take_all}
use Rattle.std.specs.Prelude.{Result, Ok, Err}
use Rattle.layout.specs.Layout.{is_lanes}
use Rattle.layout.proofs.LaneCounts.{lanes_of}
use Rattle.layout.proofs.Widths.{and_both}
use Rattle.answers.specs.Answers.{answer, over, written}
use Rattle.answers.specs.declared.Refusal.{Refusal}
use Rattle.answers.specs.declared.Refusal.TheVariants.{BadLanes, NoRoom, TooMany, OutOfOrder, BadHeader}
use Rattle.answers.specs.Refusals.{Tested, accept, accepted, refuse, or_else}
use Rattle.answers.proofs.Answers.{refuses, passes}
use Rattle.answers.proofs.Fronts.{take_over}
use Rattle.answers.proofs.Refusals.{accepted_is, both, refused}
use Rattle.modes.specs.declared.Mode.{Mode}
use Rattle.order.specs.Order.{starting, ordered}
use Rattle.bodies.specs.List.{most}
use Rattle.bodies.proofs.Sizes.{length_list}
use Rattle.lists.specs.Calls.{measure_refusal}
use Rattle.lists.proofs.Accepts.{writing_parts, Readable, read_exactly}
use Rattle.files.specs.Opening.{is_settings, settings_said, header_in, body_in, header_refusal}
use Rattle.files.specs.Calls.{list_in, read_file_refusal, file_for, write_file_answer}
use Rattle.files.proofs.Theorems.{settings_sets}
use Rattle.programs.specs.Lines.{value_lines}
use Rattle.text.specs.Text.{same}
use Rattle.programs.specs.Programs.{refused_line, output, rest_in, limit, limit_refusal, file_refusal, list_to_text, is_text, values_in, text_to_list}
use Rattle.programs.specs.kernel.Forms.{form_refusal}

-- from a file

module _ (file : List ℕ) where
  pub file_too_long : 65536 < length file → refused_line BadHeader ≡ list_to_text file
  unfolding list_to_text
  file_too_long h = sym (rw (lt-ltb 65536 (length file) h))

  pub printed_values : accepted (file_refusal file) ≡ true → value_lines (list_in file) ≡ list_to_text file
  unfolding list_to_text
  printed_values h = sym (rw (accepted_is (file_refusal file) h))

  module _ (fits : length file ≤ 65536) where
    pub file_refused : {k : Refusal} → read_file_refusal file most ≡ Err k → refused_line k ≡ list_to_text file
    unfolding list_to_text
    file_refused h = sym (rw (le-ltb 65536 (length file) fits, h))

    pub file_accepted : accepted (read_file_refusal file most) ≡ true → value_lines (list_in file) ≡ list_to_text file
    file_accepted h = printed_values (rw (le-ltb 65536 (length file) fits) h)

  -- the list that was read
  module _ (h : accepted (read_file_refusal file most) ≡ true) where
    readable : Readable (header_in file).lanes (header_in file).mode (header_in file).count (body_in file) most
    readable = (read_exactly (header_in file).lanes (header_in file).mode (header_in file).count (body_in file) most).0 (both (header_refusal file) _ h).1

    pub list_length : length (list_in file) ≡ (header_in file).count
    list_length = length_list (header_in file).lanes (lanes_of (header_in file).lanes readable.lanes).0 (header_in file).mode (header_in file).count (body_in file)

    pub list_few : length (list_in file) ≤ most
    list_few = omega (arith, list_length, readable.few)

  -- reading answered a count, and left `after`
  pub list_out : {count : ℕ} (before : List ℕ) {after : List ℕ} → Ok count ≡ answer (file_refusal file) (header_in file).count → after ≡ written (file_refusal file) (list_in file) before → value_lines (take count after) ≡ list_to_text file
  list_out {count} before {after} a o =
      let p = passes (file_refusal file) (header_in file).count (sym a) in
      let good : accepted (file_refusal file) ≡ true = ap accepted p.0 in
      let n : length (list_in file) ≡ count = list_length (both (limit_refusal file) (read_file_refusal file most) good).1 ∙ sym p.1 in
      let kept : take count after ≡ list_in file = ap (take count) (o ∙ rw p.0 refl) ∙ take_over count (list_in file) before n in
      ap value_lines kept ∙ printed_values good

-- the values that were read, in a place that is long enough for them
pub values_kept : (before vs out : List ℕ) (n : ℕ) → length vs ≡ n → n ≤ length before → out ≡ over (take (length before) vs) before → take n out ≡ vs
values_kept before vs out n e few h =
    ap (take n) (h ∙ ap (λ (t : List ℕ). over t before) (take_all (length before) vs (omega (arith, e)))) ∙ take_over n vs before e

-- from a text, that is refused

-- one that is not sound is 12
pub not_sound : (text : List ℕ) → length text ≤ limit → is_text text ≡ false → refused_line BadHeader ≡ text_to_list text
unfolding text_to_list
not_sound text fits h = sym (rw (le-ltb limit (length text) fits, h))

pub no_settings_lem : (text : List ℕ) → length text ≤ limit → is_settings text ≡ false → refused_line BadHeader ≡ text_to_list text
unfolding is_text
no_settings_lem text fits h = not_sound text fits (rw h)

is_text_lem : (text : List ℕ) → is_settings text ≡ true → same (value_lines (values_in text)) (rest_in text) ≡ true → is_text text ≡ true
unfolding is_text
is_text_lem text set sound = rw (set, sound)

module _ (text : List ℕ) where
  pub text_too_long : 65536 < length text → refused_line BadHeader ≡ text_to_list text
  unfolding text_to_list
  text_too_long h = sym (rw (lt-ltb 65536 (length text) h))

  set : is_text text ≡ true → is_settings text ≡ true
  unfolding is_text
  set h = (and_both (is_settings text) _ h).0

  -- where the form is sound, 7 is the values'
  too_many : is_text text ≡ true → ltb most (length (values_in text)) ≡ true → measure_refusal (settings_said text).lanes (settings_said text).mode (values_in text) ≡ Err TooMany
  unfolding measure_refusal
  too_many h m = rw ((settings_sets text (set h)).told.lanes, m)

  pub text_refused : {A : Type 0} (x : A) {k : Refusal} → Err k ≡ answer (form_refusal text) x → refused_line k ≡ text_to_list text
  unfolding text_to_list
  text_refused {A} x {k} h = go (limit_refusal text) refl (is_text text) refl (ltb most (length (values_in text))) refl
    where
      line_of : {j : Refusal} → ◌≡◌ {A = Tested} (Err j) (form_refusal text) → refused_line k ≡ refused_line j
      line_of {j} e = let q : ◌≡◌ {A = Tested} (Err j) (Err k) = e ∙ refuses (form_refusal text) x (sym h) in let q' : k ≡ j = cc in ap refused_line q'

      go : (l : Tested) → limit_refusal text ≡ l → (b : Bool) → is_text text ≡ b → (c : Bool) → ltb most (length (values_in text)) ≡ c → refused_line k ≡ text_to_list text
      go (Err j) l b f c m = line_of {j = j} (rw l refl) ∙ sym (rw l)
      go (Ok u) l false f c m = line_of {j = BadHeader} (rw (l, f) refl) ∙ sym (rw (l, f))
      go (Ok u) l true f true m = line_of {j = TooMany} (rw (l, f, m) refl) ∙ sym (rw (l, f, too_many f m))
      go (Ok u) l true f false m = absurd (let e : ◌≡◌ {A = Result A Refusal} (Err k) (Ok x) = rw (l, f, m) at h in cc)

  -- one within the limit, of which the three lines are found: its values
  module _ (fits : length text ≤ 65536) (given : is_settings text ≡ true) where
    pub not_lines : same (value_lines (values_in text)) (rest_in text) ≡ false → refused_line BadHeader ≡ text_to_list text
    unfolding is_text
    not_lines h = not_sound text fits (rw (given, h))

    module _ (sound : same (value_lines (values_in text)) (rest_in text) ≡ true) where
      pub text_list_out : output (measure_refusal (settings_said text).lanes (settings_said text).mode (values_in text)) (file_for (settings_said text).lanes (settings_said text).mode (values_in text)) ≡ text_to_list text
      unfolding text_to_list
      text_list_out = sym (rw (le-ltb 65536 (length text) fits, is_text_lem text given sound))

      pub text_too_many : most < length (values_in text) → refused_line TooMany ≡ text_to_list text
      text_too_many h =
          let k : measure_refusal (settings_said text).lanes (settings_said text).mode (values_in text) ≡ Err TooMany = too_many (is_text_lem text given sound) (lt-ltb most (length (values_in text)) h) in
          sym (ap (λ (t : Tested). output t (file_for (settings_said text).lanes (settings_said text).mode (values_in text))) k) ∙ text_list_out

-- a list, packed into a file

-- what its values are refused for is never 4
pub measure_not_four : (L : ℕ) (m : Mode) (vs : List ℕ) → measure_refusal L m vs ≡ Err NoRoom → ⊥
unfolding measure_refusal
measure_not_four L m vs =
    refused NotFour (not (is_lanes L)) BadLanes _ (λ e. cc)
    (refused NotFour (ltb most (length vs)) TooMany _ (λ e. cc)
    (refused NotFour (not (ordered (starting m) vs)) OutOfOrder accept (λ e. cc) (λ e. cc)))
  where
    NotFour : Tested → Type 0
    NotFour k = k ≡ Err NoRoom → ⊥

-- and any other number that writing answers is the values'
pub values_refused : (L : ℕ) (m : Mode) (vs : List ℕ) (room : ℕ) {k : Refusal} → Err k ≡ write_file_answer L m vs room → (k ≡ NoRoom → ⊥) → measure_refusal L m vs ≡ Err k
values_refused L m vs room {k} h other = go (measure_refusal L m vs) (ltb room (length (file_for L m vs))) (sym (writing_parts L m vs (length (file_for L m vs)) room) ∙ refuses _ (length (file_for L m vs)) (sym h))
  where
    go : (t : Tested) (b : Bool) → or_else t (refuse b NoRoom accept) ≡ Err k → t ≡ Err k
    go (Err j) b e = e
    go (Ok u) true e = absurd (other cc)
    go (Ok u) false e = absurd cc
