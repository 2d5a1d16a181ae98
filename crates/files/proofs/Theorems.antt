-- List files, there and back.
use mathlib.Core.Path.{◌≡◌, refl, sym, ◌∙◌, ap}
use mathlib.Core.Bool.{Bool, true, false}
use mathlib.Core.List.{List, [], ◌++◌}
use Prim.Native.Nat.{ℕ, ◌^◌, ◌≤◌, ◌<◌}
use native.Mathlib.Omega.{arith}
use borrow.Author.Tests.{eqb-true, eq-eqb, le-ltb}
use lib.ListN.{length, drop}
use lib.Seq.{drop_at}
use Rattle.std.specs.Prelude.{Some, Result, Ok, is_ok}
use Rattle.layout.specs.Layout.{Below, is_lanes}
use Rattle.layout.proofs.Widths.{and_both}
use Rattle.answers.specs.declared.Refusal.{Refusal}
use Rattle.answers.specs.Answers.{over}
use Rattle.answers.specs.declared.Refusal.TheVariants.{BadHeader}
use Rattle.answers.specs.Refusals.{accept, accepted}
use Rattle.answers.proofs.Refusals.{apart, accepted_is, both}
use Rattle.layout.proofs.Below.{below_drop}
use Rattle.modes.specs.Entries.{first_of}
use Rattle.modes.specs.declared.Initial.TheVariants.{None, Number}
use Rattle.modes.specs.declared.Mode.{Mode}
use Rattle.modes.specs.declared.Mode.TheVariants.{Plain, Sorted, Strict}
use Rattle.order.specs.Order.{starting_initial, starting}
use Rattle.bodies.specs.List.{IsList}
use Rattle.order.proofs.Beginnings.{starting_first, starting_entries, initial_twice, starting_twice}
use Rattle.bodies.specs.Body.{body_of}
use Rattle.bodies.proofs.Sizes.{body_short}
use Rattle.lists.specs.Calls.{measure_refusal, read_refusal}
use Rattle.lists.proofs.Accepts.{measure_exactly, writing_parts, read_exactly}
use Rattle.lists.specs.Demand.{Holds}
use Rattle.lists.proofs.Demand.{list_read, body_accepted, list_back}
use Rattle.text.specs.Text.{begins}
use Rattle.text.proofs.Beginnings.{stands_whole, whole_begins}
use Rattle.files.specs.declared.Found.{Found}
use Rattle.files.specs.declared.heading.Settings.{Settings}
use Rattle.files.specs.declared.heading.Header.{Header}
use Rattle.files.specs.Header.{mode_word, first_text, settings, file_of, read_back, header_text, IsHeader, Heads, Sets}
use Rattle.files.specs.kernel.Finding.{settings_lines_in, settings_in, header_lines_in, header_found}
use Rattle.files.specs.Claims.{FoundExactly, FoundBack, HeaderNotFound, OpensExactly, HeaderBack, HeaderAgain, SettingsExactly, SettingsBack, SettingsNotFound, WrittenBack, FileWritten, ListBack, Files, ReadExactly, ReadOnly, FileAgain}
use Rattle.files.specs.Opening.{is_settings, settings_said, is_headed, found_in, header_in, body_in, is_file, header_refusal, header_answer, open_answer}
use Rattle.files.specs.Calls.{list_in, read_file_refusal, read_file_answer, read_file_output, header_for, file_for, write_file_output}
use Rattle.files.proofs.Tried.{told, not_told}
use Rattle.files.proofs.Filing.{file_splits}
use Rattle.files.proofs.FoundLines.{SettingsThere, settings_there, settings_found, HeaderThere, header_there, header_found_lem}
use Rattle.files.proofs.Lines.{first_text_lem, settings_rest}
use Rattle.files.specs.kernel.First.{initial_text}

-- a header at the front of a file

-- where one is found it is there, and the body behind it
module _ (file : List ℕ) (h : is_headed file ≡ true) where
  there : HeaderThere file (found_in file)
  there = told (HeaderThere file) BadHeader (header_lines_in file) _ (header_there file) h

  pub found_sound : IsHeader (header_in file)
  found_sound = there.sound

  -- the body starts where the header's text ends
  pub found_start : (found_in file).start ≡ length (header_text (header_in file))
  found_start = there.stands.size

  pub found_whole : file ≡ file_of (header_in file) (body_in file)
  found_whole = stands_whole there.stands ∙ file_splits (header_in file) (body_in file)

-- and what some header writes is found, whatever stands behind it
module _ (file : List ℕ) (h : Header) (body : List ℕ) (sound : IsHeader h) (whole : file ≡ file_of h body) where
  split : file ≡ header_text h ++ body
  split = whole ∙ sym (file_splits h body)

  lines : header_lines_in file ≡ Some (record { header = h; start = length (header_text h) })
  lines = header_found_lem file h sound (ap (begins (header_text h)) split ∙ whole_begins (header_text h) body)

  pub header_is_found : header_found file ≡ Ok (record { header = h; start = length (header_text h) })
  header_is_found = rw lines

  pub fields_behind : header_in file ≡ h
  fields_behind = rw (lines, header_in)

  pub body_behind : body_in file ≡ body
  body_behind = rw lines (ap (drop (length (header_text h))) split ∙ drop_at (header_text h) body (length (header_text h)) refl)

-- a file begins with a header exactly where some header writes its front
pub found_exactly : FoundExactly
found_exactly file = (λ h. (header_in file, (body_in file, (found_sound file h, found_whole file h))), λ x. ap (λ (r : Result Found Refusal). is_ok r) (header_is_found file x.0 x.1.0 x.1.1.0 x.1.1.1))

-- what a file passes
pub record Filed (file : List ℕ) : Type 0 where
  pub headed : is_headed file ≡ true
  pub bytes : (header_in file).bytes ≡ length (body_in file)

pub filed : (file : List ℕ) → is_file file ≡ true → Filed file
unfolding is_file
filed file h =
    let a = and_both (is_headed file) _ h in
    record { headed = a.0; bytes = eqb-true _ _ a.1 }

pub is_file_lem : (file : List ℕ) → Filed file → is_file file ≡ true
unfolding is_file
is_file_lem file f = rw (f.headed, eq-eqb (header_in file).bytes (length (body_in file)) f.bytes)

-- a file that some header writes, opened

pub header_heads : (file : List ℕ) → is_file file ≡ true → Heads file (header_in file) (body_in file)
header_heads file h =
    let f = filed file h in
    record { sound = found_sound file f.headed; whole = found_whole file f.headed; agrees = f.bytes }

module _ {file : List ℕ} {h : Header} {body : List ℕ} (hd : Heads file h body) where
  pub fields_found : header_in file ≡ h
  fields_found = fields_behind file h body hd.sound hd.whole

  pub body_found : body_in file ≡ body
  body_found = body_behind file h body hd.sound hd.whole

  pub heads_file : is_file file ≡ true
  heads_file = is_file_lem file (record { headed = ap (λ (r : Result Found Refusal). is_ok r) (header_is_found file h body hd.sound hd.whole); bytes = rw (fields_found, body_found) hd.agrees })

  -- a header written is read back as it was, and the body with it
  pub header_back : header_answer file ≡ Ok h
  header_back = rw (heads_file, fields_found)

  pub body_back : open_answer file ≡ body
  body_back = rw heads_file body_found

-- accepted are exactly the bytes that some header writes, with `bytes` equal to the length of what follows
pub opens_exactly : OpensExactly
opens_exactly file = (there (is_file file) refl, λ x. rw (heads_file x.1.1))
  where
    there : (b : Bool) → is_file file ≡ b → accepted (header_refusal file) ≡ true → (h : Header) × ((body : List ℕ) × Heads file h body)
    there true e h = (header_in file, (body_in file, header_heads file e))
    there false e h = absurd (apart (sym (rw e at h)))

-- and so the claims
pub found_back : FoundBack
found_back = header_is_found

pub header_not_found : HeaderNotFound
header_not_found file = not_told BadHeader (header_lines_in file)

pub settings_not_found : SettingsNotFound
settings_not_found text = not_told BadHeader (settings_lines_in text)

pub comes_back : HeaderBack
comes_back file h body hd = (header_back hd, body_back hd)

pub header_again : HeaderAgain
header_again file h =
    let x = (opens_exactly file).0 h in
    (x.0, (header_back x.1.1, x.1.1.whole ∙ sym (ap (file_of x.0) (body_back x.1.1))))

-- the lanes, mode and first lines of a text, whatever stands behind them

module _ {text : List ℕ} {L : ℕ} {m : Mode} {rest : List ℕ} (s : Sets text L m rest) where
  split_text : text ≡ settings L m [] ++ rest
  split_text = s.whole ∙ sym (settings_rest L m rest)

  set_lines : settings_lines_in text ≡ Some (record { lanes = L; mode = m; length = length (settings L m []) })
  set_lines = settings_found text L m s.told (ap (begins (settings L m [])) split_text ∙ whole_begins (settings L m []) rest)

  pub settings_back : settings_in text ≡ Ok (record { lanes = L; mode = m; length = length (settings L m []) })
  settings_back = rw set_lines

  pub rest_found : drop (settings_said text).length text ≡ rest
  rest_found = rw set_lines (ap (drop (length (settings L m []))) split_text ∙ drop_at (settings L m []) rest (length (settings L m [])) refl)

pub settings_sets : (text : List ℕ) → is_settings text ≡ true → Sets text (settings_said text).lanes (settings_said text).mode (drop (settings_said text).length text)
settings_sets text h =
    let t = told (SettingsThere text) BadHeader (settings_lines_in text) _ (settings_there text) h in
    let s : Settings = settings_said text in
    record {
      told = t.told;
      whole = stands_whole t.stands ∙ settings_rest s.lanes s.mode (drop s.length text);
    }

-- accepted are exactly the texts that begin with what some lanes and mode write
pub settings_exactly : SettingsExactly
settings_exactly text =
    (λ h. ((settings_said text).lanes, ((settings_said text).mode, (drop (settings_said text).length text, settings_sets text h))), λ x. ap (λ (r : Result Settings Refusal). is_ok r) (settings_back x.1.1.1))

pub settings_told : SettingsBack
settings_told text L m rest s = settings_back s

-- strict with 4,294,967,295 has the text of strict with none

first_starting : (m : Mode) → first_text (starting m) ≡ first_text m
first_starting Plain = refl
first_starting (Sorted f) = refl
first_starting (Strict i) = first_text_lem (Strict (starting_initial i)) ∙ ap initial_text (initial_twice i) ∙ sym (first_text_lem (Strict i))

mode_starting : (m : Mode) → mode_word (starting m) ≡ mode_word m
mode_starting Plain = refl
mode_starting (Sorted f) = refl
mode_starting (Strict i) = refl

same_text : (h : Header) (body : List ℕ) → file_of (read_back h) body ≡ file_of h body
unfolding file_of
same_text h body = rw (first_starting h.mode, mode_starting h.mode)

-- a header with any mode, written, is read back so
pub written_back : WrittenBack
written_back h body lanes first count bytes agrees =
    record {
      sound = record { told = record { lanes = lanes; mode = starting_twice h.mode; first = rw (starting_first h.mode) first }; count = count; bytes = bytes };
      whole = sym (same_text h body);
      agrees = agrees;
    }

-- lists in files

body_starting : (L : ℕ) (m : Mode) (vs : List ℕ) → body_of L (starting m) vs ≡ body_of L m vs
unfolding body_of
body_starting L m vs = rw (starting_entries m vs)

-- given a list and room, writing is accepted, and leaves exactly the list's file
pub file_written : FileWritten
file_written L m vs before lanes l room =
    let k : measure_refusal L m vs ≡ accept = accepted_is _ ((measure_exactly L m vs).1 (record { lanes = lanes; few = l.few; order = l.order })) in
    rw (writing_parts L m vs (length (file_for L m vs)) (length before), k, le-ltb (length before) (length (file_for L m vs)) room) (refl, refl)

-- a file accepted, written again from what was read, is the same bytes
module _ (file : List ℕ) (room : ℕ) (bytes : Below 256 file) (h : accepted (read_file_refusal file room) ≡ true) where
  pub opened : Heads file (header_in file) (body_in file)
  opened = header_heads file (heads_file ((opens_exactly file).0 (both (header_refusal file) _ h).0).1.1)

  pub held : Holds (header_in file).lanes (header_in file).mode (header_in file).count (body_in file) (list_in file)
  held =
      list_read (header_in file).lanes (header_in file).mode opened.sound.told.lanes (header_in file).count room (body_in file) (below_drop (found_in file).start file bytes) (both (header_refusal file) _ h).1

  pub same_file : file_for (header_in file).lanes (header_in file).mode (list_in file) ≡ file
  unfolding file_for
  same_file =
      let same : header_for (header_in file).lanes (header_in file).mode (list_in file) ≡ header_in file = rw (held.list.size, ← held.body, ← opened.agrees) in
      rw (same, ← held.body) (sym opened.whole)

  written_again : (before : List ℕ) → length file ≤ length before → write_file_output (header_in file).lanes (header_in file).mode (list_in file) before ≡ over file before
  written_again before enough =
      let l : IsList (header_in file).mode (length (list_in file)) (list_in file) = rw held.list.size held.list in
      (file_written (header_in file).lanes (header_in file).mode (list_in file) before opened.sound.told.lanes l (rw same_file enough)).1 ∙ ap (λ (t : List ℕ). over t before) same_file

  pub file_again : (h : Header) × ((header_answer file ≡ Ok h) × ((before : List ℕ) → length file ≤ length before → write_file_output h.lanes h.mode (list_in file) before ≡ over file before))
  file_again = (header_in file, (header_back opened, written_again))

-- a file written is accepted and gives the list back
module _ (L : ℕ) (m : Mode) (vs : List ℕ) (lanes : is_lanes L ≡ true) (first : first_of m < 2 ^ 32) (l : IsList m (length vs) vs) where
  few : length vs ≤ 4096
  few = l.few

  heads : Heads (file_for L m vs) (read_back (header_for L m vs)) (body_of L m vs)
  unfolding file_for
  heads =
      written_back (header_for L m vs) (body_of L m vs) lanes first (omega (arith, few)) (omega (arith, body_short L lanes m vs few)) refl

  -- its header comes back as it was, and none for strict's 4,294,967,295
  pub file_header_back : header_answer (file_for L m vs) ≡ Ok (read_back (header_for L m vs))
  file_header_back = header_back heads

  holds : Holds L (starting m) (length vs) (body_of L m vs) vs
  holds =
      record {
        list = record { size = l.size; few = l.few; small = l.small; order = rw (starting_twice m) l.order };
        body = sym (body_starting L m vs);
      }

  -- whatever the room, if there is room for the list
  pub file_accepted : (room : ℕ) → length vs ≤ room → read_file_refusal (file_for L m vs) room ≡ accept
  file_accepted room enough =
      let k : read_refusal L (starting m) (length vs) (body_of L m vs) room ≡ accept = accepted_is _ (body_accepted L (starting m) lanes holds room enough) in
      rw (heads_file heads, fields_found heads, body_found heads, k)

  pub file_list_back : list_in (file_for L m vs) ≡ vs
  file_list_back =
      rw (fields_found heads, body_found heads) (list_back L (starting m) lanes holds)

  pub file_read_back : (out : List ℕ) → length vs ≤ length out → (read_file_answer (file_for L m vs) (length out) ≡ Ok (length vs)) × (read_file_output (file_for L m vs) out ≡ over vs out)
  file_read_back out room =
      let k = file_accepted (length out) room in
      (rw (k, fields_found heads), rw (k, file_list_back))

pub last_is_none : starting (Strict (Number 4294967295)) ≡ Strict None
last_is_none = refl

-- the claims of lists in files
pub lists_back : ListBack
lists_back = file_read_back

pub files_again : FileAgain
files_again = file_again

-- what is read is what the writer writes
pub files_exactly : ReadExactly
files_exactly file room bytes = (there, λ x. let f = x.1.1.1.0 in ap accepted (ap (λ (t : List ℕ). read_file_refusal t room) f.whole ∙ file_accepted x.0 x.1.0 x.1.1.0 f.lanes f.first f.list room x.1.1.1.1))
  where
    there : accepted (read_file_refusal file room) ≡ true → (L : ℕ) × ((m : Mode) × ((vs : List ℕ) × (Files file L m vs × (length vs ≤ room))))
    there h =
        let o = opened file room bytes h in
        let l = (held file room bytes h).list in
        let enough = ((read_exactly (header_in file).lanes (header_in file).mode (header_in file).count (body_in file) room).0 (both (header_refusal file) _ h).1).enough in
        let is : Files file (header_in file).lanes (header_in file).mode (list_in file) =
        record { lanes = o.sound.told.lanes; first = o.sound.told.first; list = rw l.size l; whole = sym (same_file file room bytes h) } in
        ((header_in file).lanes, ((header_in file).mode, (list_in file, (is, omega (arith, l.size, enough)))))

pub files_only : ReadOnly
files_only file L m vs f = ap list_in f.whole ∙ file_list_back L m vs f.lanes f.first f.list
