-- What std's definition of a number in decimal says, which is what is printed, is what this crate's says.
use mathlib.Core.Path.{◌≡◌, sym, ◌∙◌, ap}
use mathlib.Core.List.{List, [], ◌∷◌, ◌++◌}
use Prim.Native.Nat.{ℕ, zero, suc, ◌+◌, ◌/◌, ◌%◌, ◌^◌, ◌≤◌, ◌<◌}
use native.Mathlib.Nat.{pow-suc, div-lt_iff_lt-mul}
use native.Mathlib.Omega.{arith}
use native.Mathlib.Decide.{dec_lt}
use borrow.Author.Tests.{lt-ltb, le-ltb}
use Rattle.std.specs.Fmt as std
use Rattle.std.proofs.lemmas.Fmt.{decimal_by_steps}
use Rattle.text.specs.Text.{digits, places, decimal}
use Rattle.text.proofs.Decimals.{decimal_one}

-- a number has no more places where more are allowed
places_same : (more n : ℕ) → n < 10 ^ suc more → places (suc more) n ≡ places more n
unfolding places
places_same zero n h = rw (lt-ltb n 10 h)
places_same (suc more) n h = go (dec_lt n 10) (λ less. places_same more (n / 10) less)
  where
    go : Dec (n < 10) → (n / 10 < 10 ^ suc more → places (suc more) (n / 10) ≡ places more (n / 10)) → places (suc (suc more)) n ≡ places (suc more) n
    go (yes lt) ih = rw (lt-ltb n 10 lt)
    go (no ge) ih = rw (le-ltb n 10 (omega arith)) (ap suc (ih ((div-lt_iff_lt-mul {k = 10} (omega arith)).1 (rw pow-suc at h))))

-- the last digit behind the others
last_digit : (more n : ℕ) → 10 ≤ n → n / 10 < 10 ^ suc more → digits (places (suc more) n) n ≡ digits (places (suc more) (n / 10)) (n / 10) ++ ((48 + n % 10) ∷ [])
unfolding places digits
last_digit more n ge less = rw (le-ltb n 10 ge) (ap (λ (k : ℕ). digits k (n / 10) ++ ((48 + n % 10) ∷ [])) (sym (places_same more (n / 10) less)))

pub printed : (n : ℕ) → n < 2 ^ 32 → std.decimal n ≡ decimal n
unfolding decimal
printed n h = decimal_by_steps (λ (m : ℕ) (ds : List ℕ). m < 10 ^ 10 → ds ≡ decimal m) one more n (omega arith) (omega arith)
  where
    one : (m : ℕ) → m < 10 → m < 10 ^ 10 → ((48 + m) ∷ []) ≡ decimal m
    one m lt small = sym (decimal_one m lt)

    more : (m : ℕ) (ds : List ℕ) → 10 ≤ m → (m / 10 < 10 ^ 10 → ds ≡ decimal (m / 10)) → m < 10 ^ 10 → ds ++ ((48 + m % 10) ∷ []) ≡ decimal m
    more m ds ge ih small = ap (λ (t : List ℕ). t ++ ((48 + m % 10) ∷ [])) (ih (omega arith)) ∙ sym (last_digit 8 m ge (omega arith))
