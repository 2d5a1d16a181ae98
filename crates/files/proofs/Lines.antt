-- Lines written at the front of an output.
use mathlib.Core.Path.{◌≡◌, refl, sym, ◌∙◌, ap}
use mathlib.Core.Bool.{Bool, true, false, cond}
use mathlib.Core.List.{List, [], ◌∷◌, ◌++◌, append_assoc}
use Prim.Native.Nat.{ℕ, ◌≤◌}
use native.Mathlib.Omega.{arith}
use lib.Dec.{eqb}
use lib.ListN.{length, length-append}
use Rattle.modes.specs.declared.Initial.{Initial}
use Rattle.modes.specs.declared.Initial.TheVariants.{None, Number}
use Rattle.modes.specs.declared.Mode.{Mode}
use Rattle.modes.specs.declared.Mode.TheVariants.{Plain, Sorted, Strict}
use Rattle.text.specs.Text.{word, decimal, line}
use Rattle.text.proofs.Lines.{number_line_short, line_rest}
use Rattle.files.specs.declared.heading.Header.{Header}
use Rattle.files.specs.kernel.Lengths.{longest_number_line, longest_mode_line, longest_settings, longest_header}
use Rattle.files.specs.Header.{mode_word, first_text, settings, file_of, header_text}
use Rattle.files.specs.kernel.First.{first_field, initial_text}

-- how long lines are
pub mode_line_short : (m : Mode) → length (line "mode=" (mode_word m) []) ≤ longest_mode_line
mode_line_short Plain = omega arith
mode_line_short (Sorted f) = omega arith
mode_line_short (Strict i) = omega arith

-- what `first` says, put, is its text
pub first_text_lem : (m : Mode) → first_text m ≡ initial_text (first_field m)
first_text_lem Plain = refl
first_text_lem (Sorted f) = refl
first_text_lem (Strict None) = refl
first_text_lem (Strict (Number f)) = go (eqb f 4294967295)
  where
    go : (b : Bool) → cond b (word "none") (decimal f) ≡ initial_text (cond b None (Number f))
    go true = refl
    go false = refl

initial_short : (i : Initial) → length (line "first=" (initial_text i) []) ≤ longest_number_line
initial_short None = omega arith
initial_short (Number f) = number_line_short (word "first=") f

pub first_line_short : (m : Mode) → length (line "first=" (first_text m) []) ≤ longest_number_line
first_line_short m = rw (first_text_lem m) (initial_short (first_field m))

-- the three lines of the settings
pub settings_are : (L : ℕ) (m : Mode) (rest : List ℕ) → line "lanes=" (decimal L) [] ++ (line "mode=" (mode_word m) [] ++ (line "first=" (first_text m) [] ++ rest)) ≡ settings L m rest
settings_are L m rest = rw (line_rest "first=" (first_text m) rest, line_rest "mode=" (mode_word m) (line "first=" (first_text m) rest)) (line_rest "lanes=" (decimal L) (line "mode=" (mode_word m) (line "first=" (first_text m) rest)))

pub settings_rest : (L : ℕ) (m : Mode) (rest : List ℕ) → settings L m [] ++ rest ≡ settings L m rest
settings_rest L m rest =
    append_assoc (word "lanes=") (decimal L ++ (10 ∷ line "mode=" (mode_word m) (line "first=" (first_text m) []))) rest
    ∙ ap (λ (t : List ℕ). word "lanes=" ++ t) (append_assoc (decimal L) (10 ∷ line "mode=" (mode_word m) (line "first=" (first_text m) [])) rest
    ∙ ap (λ (t : List ℕ). decimal L ++ (10 ∷ t)) (mode_rest m))
  where
    first_rest : (n : Mode) → line "first=" (first_text n) [] ++ rest ≡ line "first=" (first_text n) rest
    first_rest n = line_rest "first=" (first_text n) rest

    mode_rest : (n : Mode) → line "mode=" (mode_word n) (line "first=" (first_text n) []) ++ rest ≡ line "mode=" (mode_word n) (line "first=" (first_text n) rest)
    mode_rest n =
        ap (λ (t : List ℕ). t ++ rest) (sym (line_rest "mode=" (mode_word n) (line "first=" (first_text n) [])))
        ∙ append_assoc (line "mode=" (mode_word n) []) (line "first=" (first_text n) []) rest
        ∙ ap (λ (t : List ℕ). line "mode=" (mode_word n) [] ++ t) (first_rest n) ∙ line_rest "mode=" (mode_word n) (line "first=" (first_text n) rest)

pub settings_short : (L : ℕ) (m : Mode) → length (settings L m []) ≤ longest_settings
settings_short L m =
    let t : List ℕ = line "lanes=" (decimal L) [] in
    let u : List ℕ = line "mode=" (mode_word m) [] in
    let v : List ℕ = line "first=" (first_text m) [] in
    omega (arith, ap length (settings_are L m []), length-append t (u ++ (v ++ [])), length-append u (v ++ []), length-append v [], number_line_short (word "lanes=") L, mode_line_short m, first_line_short m)

-- the text of a header, line by line, with a body behind it
pub header_are : (h : Header) (body : List ℕ) → (settings h.lanes h.mode [] ++ (line "count=" (decimal h.count) [] ++ line "bytes=" (decimal h.bytes) [])) ++ (10 ∷ body) ≡ file_of h body
unfolding file_of
header_are h body =
    let c : List ℕ = line "count=" (decimal h.count) [] in
    let b : List ℕ = line "bytes=" (decimal h.bytes) [] in
    append_assoc (settings h.lanes h.mode []) (c ++ b) (10 ∷ body)
    ∙ ap (λ (t : List ℕ). settings h.lanes h.mode [] ++ t) (append_assoc c b (10 ∷ body) ∙ ap (λ (t : List ℕ). c ++ t) (line_rest "bytes=" (decimal h.bytes) (10 ∷ body)) ∙ line_rest "count=" (decimal h.count) (line "bytes=" (decimal h.bytes) (10 ∷ body)))
    ∙ settings_rest h.lanes h.mode (line "count=" (decimal h.count) (line "bytes=" (decimal h.bytes) (10 ∷ body)))

pub header_short : (h : Header) → length (file_of h []) ≤ longest_header
header_short h =
    let t : List ℕ = settings h.lanes h.mode [] in
    let u : List ℕ = line "count=" (decimal h.count) [] in
    let v : List ℕ = line "bytes=" (decimal h.bytes) [] in
    let w : List ℕ = 10 ∷ [] in
    omega (arith, ap length (header_are h []), length-append (t ++ (u ++ v)) w, length-append t (u ++ v), length-append u v, settings_short h.lanes h.mode, number_line_short (word "count=") h.count, number_line_short (word "bytes=") h.bytes)

-- as it is put, line after line
regroup : (a b c d e : List ℕ) → (((a ++ b) ++ c) ++ d) ++ e ≡ a ++ (b ++ (c ++ (d ++ e)))
regroup a b c d e = simp append_assoc

pub header_put : (h : Header) → ((((line "lanes=" (decimal h.lanes) [] ++ line "mode=" (mode_word h.mode) []) ++ line "first=" (first_text h.mode) []) ++ line "count=" (decimal h.count) []) ++ line "bytes=" (decimal h.bytes) []) ++ (10 ∷ []) ≡ header_text h
header_put h =
    let c : List ℕ = line "count=" (decimal h.count) [] in
    let b : List ℕ = line "bytes=" (decimal h.bytes) [] in
    ap (λ (t : List ℕ). t ++ (10 ∷ [])) (regroup (line "lanes=" (decimal h.lanes) []) (line "mode=" (mode_word h.mode) []) (line "first=" (first_text h.mode) []) c b ∙ settings_are h.lanes h.mode (c ++ b) ∙ sym (settings_rest h.lanes h.mode (c ++ b)))
    ∙ header_are h []
