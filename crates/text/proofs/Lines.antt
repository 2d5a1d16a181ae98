-- Lines written at the front of an output.
use mathlib.Core.Path.{◌≡◌, refl, sym, ◌∙◌, ap}
use mathlib.Core.List.{List, [], ◌∷◌, ◌++◌, append_assoc}
use Prim.Native.String.{String}
use Prim.Native.Nat.{ℕ, ◌+◌, ◌-◌, ◌≤◌, ◌<◌}
use native.Mathlib.Omega.{arith}
use lib.ListN.{length, set, drop, length-append}
use lib.Seq.{take_at, drop_at, drop-drop}
use borrow.Rule.Slice.PartMut.{put_mid}
use Rattle.answers.specs.Answers.{over}
use Rattle.answers.proofs.Fronts.{Front, front_put}
use Rattle.std.specs.Prelude.{Option, Some}
use Rattle.text.specs.Text.{word, decimal, fitted, fitted_length, line, numbered}
use Rattle.text.proofs.Decimals.{fitted_all, fitted_length_all, decimal_short}

-- how long lines are
pub line_length : (name value : List ℕ) → length (name ++ (value ++ (10 ∷ []))) ≡ length name + length value + 1
line_length name value = rw (length-append, length-append) (omega arith)

pub number_line_short : (name : List ℕ) (x : ℕ) → length (name ++ (decimal x ++ (10 ∷ []))) ≤ length name + 11
number_line_short name x = rw (length-append, length-append) (omega (arith, decimal_short x))

-- a name, a value in the part behind it, and byte 10
pub line_put : (name value out : List ℕ) → length name + length value < length out
    → set (put_mid (length name) (length name + length value - length name) (over name out) value) (length name + length value) 10 ≡ over (fitted (name ++ (value ++ (10 ∷ []))) out) out
line_put name value out room =
    let end : ℕ = length name + length value in
    let len : length (name ++ value) ≡ end = length-append name value in
    let whole : length name + (end - length name) ≡ end = omega arith in
    let both : Front (name ++ value) out (put_mid (length name) (end - length name) (over name out) value) =
    record {
      fits = omega (arith, len);
      here =
          rw (take_at name (drop (length name) out) (length name) refl, drop_at name (drop (length name) out) (length name) refl, drop-drop (end - length name) (length name) out, whole, len)
          (sym (append_assoc name value (drop end out)));
    } in
    let all : fitted (name ++ (value ++ (10 ∷ []))) out ≡ name ++ (value ++ (10 ∷ [])) = fitted_all _ out (rw line_length (omega arith)) in
    (front_put both end len 10 room).here ∙ ap (λ (t : List ℕ). over t out) (append_assoc name value (10 ∷ []) ∙ sym all)

-- a text put where there is room for it
pub put_whole : {t₀ t : List ℕ} (before : List ℕ) → t₀ ≡ t → length t ≤ length before → {r : Option ℕ} {out : List ℕ} → (r ≡ fitted_length t₀ before) × (out ≡ over (fitted t₀ before) before)
    → (r ≡ Some (length t)) × (out ≡ over t before)
put_whole {t₀} {t} before e room {r} {out} put =
    (put.0 ∙ ap (λ (x : List ℕ). fitted_length x before) e ∙ fitted_length_all t before room, put.1 ∙ ap (λ (x : List ℕ). over (fitted x before) before) e ∙ ap (λ (x : List ℕ). over x before) (fitted_all t before room))

-- a line with a rest behind it is the line, and the rest
pub line_rest : (name : String) (value rest : List ℕ) → line name value [] ++ rest ≡ line name value rest
line_rest name value rest = append_assoc (word name) (value ++ (10 ∷ [])) rest ∙ ap (λ (t : List ℕ). word name ++ t) (append_assoc value (10 ∷ []) rest)

pub numbered_rest : (name : List ℕ) (v : ℕ) (rest : List ℕ) → numbered name v ++ rest ≡ name ++ (decimal v ++ (10 ∷ rest))
numbered_rest name v rest = append_assoc name (decimal v ++ (10 ∷ [])) rest ∙ ap (λ (t : List ℕ). name ++ t) (append_assoc (decimal v) (10 ∷ []) rest)
