-- The lines of a header: what is found is there, and what is there is found.
use mathlib.Core.Path.{◌≡◌, refl, sym, ◌∙◌, ap}
use mathlib.Core.Bool.{Bool, true, false, cond}
use mathlib.Core.List.{List, [], ◌∷◌, ◌++◌, append_assoc}
use Prim.Native.Nat.{ℕ, ◌+◌, ◌^◌, ◌<◌}
use native.Mathlib.Omega.{arith}
use borrow.Author.Tests.{ne_eqb}
use lib.Dec.{eqb}
use lib.ListN.{length, drop, length-append}
use Rattle.std.specs.Prelude.{Some, None, IfSome}
use Rattle.layout.specs.Layout.{is_lanes}
use Rattle.layout.proofs.LaneCounts.{lanes_of}
use Rattle.modes.specs.Entries.{first_of}
use Rattle.modes.specs.declared.Initial.{Initial}
use Rattle.modes.specs.declared.Initial.TheVariants as initial
use Rattle.modes.specs.declared.Mode.{Mode}
use Rattle.modes.specs.declared.Mode.TheVariants.{Plain, Sorted, Strict}
use Rattle.order.specs.Order.{starting_initial, starting}
use Rattle.text.specs.declared.Numeral.{Numeral}
use Rattle.text.specs.Text.{word, decimal, numbered, begins, number_line}
use Rattle.text.proofs.Decimals.{decimal_front}
use Rattle.text.proofs.Beginnings.{begins_whole, Stands, stands_then, begins_both}
use Rattle.text.proofs.Lines.{numbered_rest}
use Rattle.text.proofs.Found.{Numbered, line_there, line_found, not_named}
use Rattle.files.specs.declared.finding.ModeLines.{ModeLines}
use Rattle.files.specs.declared.finding.SizeLines.{SizeLines}
use Rattle.files.specs.declared.heading.Settings.{Settings}
use Rattle.files.specs.declared.heading.Header.{Header}
use Rattle.files.specs.declared.Found.{Found}
use Rattle.files.specs.Header.{settings, file_of, header_text, Sound, IsHeader}
use Rattle.files.specs.kernel.Finding.{mode_text, none_lines, sorted_name, sorted_lines, strict_name, strict_lines, mode_lines_in, settings_of, behind_lanes, settings_lines_in, size_text, behind_bytes, behind_count, size_lines_in, header_of, behind_settings, header_lines_in}
use Rattle.files.proofs.Lines.{first_text_lem, settings_rest}
use Rattle.files.proofs.Tried.{when, either, mapped, then, at_some}

-- the mode and first lines

pub record ModeThere (bs : List ℕ) (r : ModeLines) : Type 0 where
  pub mode : starting r.mode ≡ r.mode
  pub first : first_of r.mode < 2 ^ 32
  pub stands : Stands (mode_text r.mode) r.length bs

-- strict with a number of its own
bounded : (v : ℕ) → starting_initial (initial.Number v) ≡ initial.Number v → eqb v 4294967295 ≡ false
bounded v own = go (eqb v 4294967295) own
  where
    go : (b : Bool) → cond b initial.None (initial.Number v) ≡ initial.Number v → b ≡ false
    go true e = absurd cc
    go false e = refl

module _ (bs : List ℕ) where
  strict_there : (n : Numeral) → Numbered strict_name bs n → IfSome (strict_lines n) (ModeThere bs)
  strict_there n t = go (eqb n.value 4294967295) refl
    where
      go : (b : Bool) → eqb n.value 4294967295 ≡ b → IfSome (strict_lines n) (ModeThere bs)
      go true q = rw q tt
      go false q = rw q (record { mode = rw q; first = t.small; stands = rw q t.stands })

  pub mode_there : IfSome (mode_lines_in bs) (ModeThere bs)
  unfolding mode_lines_in
  mode_there =
      when (ModeThere bs) (begins (mode_text Plain) bs) _ _ (λ h. record { mode = refl; first = omega arith; stands = record { there = h; size = refl } })
      (λ h. when (ModeThere bs) (begins (mode_text (Strict initial.None)) bs) _ _ (λ h. record { mode = refl; first = omega arith; stands = record { there = h; size = refl } })
      (λ h. either (ModeThere bs) _ _
      (mapped (ModeThere bs) sorted_lines (number_line sorted_name bs) (λ n e. let t = line_there sorted_name bs n e in record { mode = refl; first = t.small; stands = t.stands }))
      (then (ModeThere bs) strict_lines (number_line strict_name bs) (λ n e. strict_there n (line_there strict_name bs n e)))))

  module _ (rest : List ℕ) where
    not_plain_sorted : (v : ℕ) → bs ≡ mode_text (Sorted v) ++ rest → begins (mode_text Plain) bs ≡ false
    unfolding begins
    not_plain_sorted v e = ap (begins (mode_text Plain)) e

    not_strict_sorted : (v : ℕ) → bs ≡ mode_text (Sorted v) ++ rest → begins (mode_text (Strict initial.None)) bs ≡ false
    unfolding begins
    not_strict_sorted v e = ap (begins (mode_text (Strict initial.None))) e

    not_plain : (i : Initial) → bs ≡ mode_text (Strict i) ++ rest → begins (mode_text Plain) bs ≡ false
    unfolding begins
    not_plain i e = ap (begins (mode_text Plain)) e

    not_sorted : (i : Initial) → bs ≡ mode_text (Strict i) ++ rest → number_line sorted_name bs ≡ None
    unfolding begins
    not_sorted i e = not_named sorted_name bs (ap (begins sorted_name) e)

    -- a digit is no letter
    not_none : (v : ℕ) → bs ≡ numbered strict_name v ++ rest → begins (mode_text (Strict initial.None)) bs ≡ false
    unfolding begins
    not_none v e =
        let d = decimal_front v in
        ap (begins (mode_text (Strict initial.None))) (e ∙ numbered_rest strict_name v rest ∙ ap (λ (t : List ℕ). strict_name ++ (t ++ (10 ∷ rest))) d.1.1.1)
        ∙ rw (ne_eqb 110 d.0 (λ same. omega (arith, d.1.1.0, same)))

  pub mode_found : (m : Mode) → starting m ≡ m → first_of m < 2 ^ 32 → begins (mode_text m) bs ≡ true → mode_lines_in bs ≡ Some (none_lines m)
  unfolding mode_lines_in
  mode_found Plain is small h = rw h
  mode_found (Sorted v) is small h =
      let e = begins_whole (mode_text (Sorted v)) bs h in
      rw (not_plain_sorted _ v e, not_strict_sorted _ v e, line_found sorted_name bs v small h)
  mode_found (Strict initial.None) is small h =
      rw (not_plain _ initial.None (begins_whole (mode_text (Strict initial.None)) bs h), h)
  mode_found (Strict (initial.Number v)) is small h =
      let e = begins_whole (mode_text (Strict (initial.Number v))) bs h in
      let own : starting_initial (initial.Number v) ≡ initial.Number v = cc in
      let line : begins (numbered strict_name v) bs ≡ true = rw (first_text_lem (Strict (initial.Number v)), own) at h in
      let other : eqb v 4294967295 ≡ false = bounded v own in
      rw (not_plain _ (initial.Number v) e, not_none _ v (begins_whole (numbered strict_name v) bs line), not_sorted _ (initial.Number v) e, line_found strict_name bs v small line, other)

-- the settings

pub record SettingsThere (bs : List ℕ) (s : Settings) : Type 0 where
  pub told : Sound s.lanes s.mode
  pub stands : Stands (settings s.lanes s.mode []) s.length bs

settings_parts : (L : ℕ) (m : Mode) → numbered (word "lanes=") L ++ mode_text m ≡ settings L m []
settings_parts L m = numbered_rest (word "lanes=") L (mode_text m)

module _ (bs : List ℕ) where
  pub settings_there : IfSome (settings_lines_in bs) (SettingsThere bs)
  unfolding settings_lines_in
  settings_there =
      then (SettingsThere bs) (behind_lanes bs) (number_line (word "lanes=") bs)
      (λ l e. when (SettingsThere bs) (is_lanes l.value) _ _
      (λ g. mapped (SettingsThere bs) (settings_of l) (mode_lines_in (drop l.length bs))
      (λ m f.
      let t = line_there (word "lanes=") bs l e in
      let n = at_some (ModeThere (drop l.length bs)) (mode_there (drop l.length bs)) f in
      record { told = record { lanes = g; mode = n.mode; first = n.first }; stands = rw (← settings_parts l.value m.mode) (stands_then t.stands n.stands) }))
      (λ g. tt))

  pub settings_found : (L : ℕ) (m : Mode) → Sound L m → begins (settings L m []) bs ≡ true → settings_lines_in bs ≡ Some (record { lanes = L; mode = m; length = length (settings L m []) })
  unfolding settings_lines_in
  settings_found L m told h =
      let l : List ℕ = numbered (word "lanes=") L in
      let p = begins_both l (mode_text m) bs (rw (settings_parts L m) h) in
      rw (line_found (word "lanes=") bs L (omega (arith, lanes_of L told.lanes)) p.0, told.lanes, mode_found (drop (length l) bs) m told.mode told.first p.1)
      (ap (λ (n : ℕ). Some (record { lanes = L; mode = m; length = n })) (sym (length-append l (mode_text m)) ∙ ap length (settings_parts L m)))

-- the count and bytes lines

pub record SizesThere (bs : List ℕ) (z : SizeLines) : Type 0 where
  pub count : z.count < 2 ^ 32
  pub bytes : z.bytes < 2 ^ 32
  pub stands : Stands (size_text z.count z.bytes) z.length bs

-- its two lines, and the empty one
abbrev size_lines : ℕ → ℕ → List ℕ
size_lines count bytes = numbered (word "count=") count ++ numbered (word "bytes=") bytes

size_parts : (count bytes : ℕ) → size_lines count bytes ++ (10 ∷ []) ≡ size_text count bytes
size_parts count bytes =
    append_assoc (numbered (word "count=") count) (numbered (word "bytes=") bytes) (10 ∷ [])
    ∙ numbered_rest (word "count=") count (numbered (word "bytes=") bytes ++ (10 ∷ []))
    ∙ ap (λ (t : List ℕ). word "count=" ++ (decimal count ++ (10 ∷ t))) (numbered_rest (word "bytes=") bytes (10 ∷ []))

module _ (bs : List ℕ) where
  pub sizes_there : IfSome (size_lines_in bs) (SizesThere bs)
  unfolding size_lines_in
  sizes_there =
      then (SizesThere bs) (behind_count bs) (number_line (word "count=") bs)
      (λ c e. then (SizesThere bs) (behind_bytes bs c) (number_line (word "bytes=") (drop c.length bs))
      (λ b f. when (SizesThere bs) (begins (10 ∷ []) (drop (c.length + b.length) bs)) _ _
      (λ h.
      let t = line_there (word "count=") bs c e in
      let u = line_there (word "bytes=") (drop c.length bs) b f in
      let end : Stands (10 ∷ []) 1 (drop (c.length + b.length) bs) = record { there = h; size = refl } in
      record { count = t.small; bytes = u.small; stands = rw (← size_parts c.value b.value) (stands_then (stands_then t.stands u.stands) end) })
      (λ h. tt)))

  pub sizes_found : (count bytes : ℕ) → count < 2 ^ 32 → bytes < 2 ^ 32 → begins (size_text count bytes) bs ≡ true → size_lines_in bs ≡ Some (record { count = count; bytes = bytes; length = length (size_text count bytes) })
  unfolding size_lines_in
  sizes_found count bytes small small' h =
      let c : List ℕ = numbered (word "count=") count in
      let b : List ℕ = numbered (word "bytes=") bytes in
      let p = begins_both (size_lines count bytes) (10 ∷ []) bs (rw (size_parts count bytes) h) in
      let q = begins_both c b bs p.0 in
      let end : begins (10 ∷ []) (drop (length c + length b) bs) ≡ true = rw (← length-append c b) p.1 in
      let n : length c + length b + 1 ≡ length (size_text count bytes) = rw (← length-append c b) (sym (length-append (size_lines count bytes) (10 ∷ [])) ∙ ap length (size_parts count bytes)) in
      rw (line_found (word "count=") bs count small q.0, line_found (word "bytes=") (drop (length c) bs) bytes small' q.1, end)
      (ap (λ (k : ℕ). Some (record { count = count; bytes = bytes; length = k })) n)

-- the whole header

pub record HeaderThere (file : List ℕ) (f : Found) : Type 0 where
  pub sound : IsHeader f.header
  pub stands : Stands (header_text f.header) f.start file

header_parts : (h : Header) → settings h.lanes h.mode [] ++ size_text h.count h.bytes ≡ header_text h
unfolding file_of
header_parts h = settings_rest h.lanes h.mode (size_text h.count h.bytes)

module _ (file : List ℕ) where
  pub header_there : IfSome (header_lines_in file) (HeaderThere file)
  unfolding header_lines_in
  header_there =
      then (HeaderThere file) (behind_settings file) (settings_lines_in file)
      (λ s e. mapped (HeaderThere file) (header_of s) (size_lines_in (drop s.length file))
      (λ z f.
      let t = at_some (SettingsThere file) (settings_there file) e in
      let u = at_some (SizesThere (drop s.length file)) (sizes_there (drop s.length file)) f in
      record {
        sound = record { told = t.told; count = u.count; bytes = u.bytes };
        stands = rw (← header_parts (record { lanes = s.lanes; mode = s.mode; count = z.count; bytes = z.bytes })) (stands_then t.stands u.stands);
      }))

  pub header_found_lem : (h : Header) → IsHeader h → begins (header_text h) file ≡ true → header_lines_in file ≡ Some (record { header = h; start = length (header_text h) })
  unfolding header_lines_in
  header_found_lem h is b =
      let t : List ℕ = settings h.lanes h.mode [] in
      let z : List ℕ = size_text h.count h.bytes in
      let p = begins_both t z file (rw (header_parts h) b) in
      rw (settings_found file h.lanes h.mode is.told p.0, sizes_found (drop (length t) file) h.count h.bytes is.count is.bytes p.1)
      (ap (λ (n : ℕ). Some (record { header = h; start = n })) (sym (length-append t z) ∙ ap length (header_parts h)))
