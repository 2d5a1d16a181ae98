-- The claim of specs/Claims.
use mathlib.Core.Path.{◌≡◌, refl, sym, ◌∙◌, ap}
use mathlib.Core.List.{List, [], ◌∷◌, ◌++◌}
use Prim.Native.Nat.{ℕ, zero, suc, ◌+◌, ◌*◌, ◌-◌, ◌/◌, ◌%◌, ◌^◌, ◌≤◌, ◌<◌}
use native.Mathlib.Nat.{le_refl, pow-suc, pow-succ', pow-le-pow_right, div-lt_iff_lt-mul, le-div_iff_mul-le, mod-eq_of_lt}
use native.Mathlib.Omega.{arith}
use native.Mathlib.Decide.{dec_lt}
use lib.ListN.{length, take, get_or, get_or-append}
use lib.Seq.{get_or_at, take-suc, take-length}
use Rattle.text.specs.Text.{digits, places, decimal, value_from}
use Rattle.text.specs.Claims.{Decimals, OneDecimal}
use Rattle.text.proofs.Decimals.{value_more, length_digits, digits_front, places_some, places_enough, places_least, power_some, decimal_one, decimal_value}

-- the highest of k + 1 digits, where n has no fewer and no more
top_digit : (n k : ℕ) → 10 ^ k ≤ n → n < 10 ^ suc k → 49 ≤ get_or (digits (suc k) n) 0 0
top_digit n k low high =
    let few : n / 10 ^ k < 10 = (div-lt_iff_lt-mul (power_some k)).1 (rw pow-succ' at high) in
    let some : 1 ≤ n / 10 ^ k = (le-div_iff_mul-le (power_some k)).1 (omega (arith, low)) in
    rw (digits_front k n, mod-eq_of_lt few) (omega arith)

each_digit : (k n i : ℕ) → i < k → (48 ≤ get_or (digits k n) i 0) × (get_or (digits k n) i 0 ≤ 57)
unfolding digits
each_digit zero n i h = absurd (omega arith)
each_digit (suc k) n i h = go (dec_lt i k) (λ lt. each_digit k (n / 10) i lt)
  where
    go : Dec (i < k) → (i < k → (48 ≤ get_or (digits k (n / 10)) i 0) × (get_or (digits k (n / 10)) i 0 ≤ 57)) → (48 ≤ get_or (digits k (n / 10) ++ ((48 + n % 10) ∷ [])) i 0) × (get_or (digits k (n / 10) ++ ((48 + n % 10) ∷ [])) i 0 ≤ 57)
    go (yes lt) ih = rw (get_or-append (digits k (n / 10)) ((48 + n % 10) ∷ []) 0 i (rw length_digits lt)) (ih lt)
    go (no ge) ih =
        let e : i ≡ k = omega arith in
        rw (e, get_or_at (digits k (n / 10)) (48 + n % 10) [] 0 k (length_digits k (n / 10))) (omega arith, omega arith)

pub is_decimal : Decimals
unfolding decimal
is_decimal n h =
    record {
      each = λ k lt. each_digit (places 9 n) n k (rw length_digits at lt);
      value = decimal_value n h;
      one = decimal_one n;
      front = λ big. go (places 9 n) (places_some 9 n) (places_least 9 n (omega arith)) (places_enough 9 n (omega arith));
    }
  where
    go : (p : ℕ) → 0 < p → 10 ^ (p - 1) ≤ n → n < 10 ^ p → 49 ≤ get_or (digits p n) 0 0
    go zero some low high = absurd (omega arith)
    go (suc k) some low high =
        let e : suc k - 1 ≡ k = omega arith in
        top_digit n k (rw e at low) high

-- the only one

-- the first j digits of a text, and the number that they stand for
module _ (t : List ℕ) (each : (i : ℕ) → i < length t → (48 ≤ get_or t i 0) × (get_or t i 0 ≤ 57)) where
  abbrev up_to : ℕ → ℕ
  up_to j = value_from 0 (take j t)

  one_more : (j : ℕ) → j < length t → up_to (suc j) ≡ up_to j * 10 + (get_or t j 0 - 48)
  one_more j h = ap (value_from 0) (take-suc t j 0 h) ∙ value_more 0 (take j t) (get_or t j 0)

  digits_again : (j : ℕ) → j ≤ length t → digits j (up_to j) ≡ take j t
  unfolding digits
  digits_again zero h = refl
  digits_again (suc j) h =
      let ok = each j (omega arith) in
      let q : (up_to j * 10 + (get_or t j 0 - 48)) / 10 ≡ up_to j = omega (arith, ok.0, ok.1) in
      let r : 48 + (up_to j * 10 + (get_or t j 0 - 48)) % 10 ≡ get_or t j 0 = omega (arith, ok.0, ok.1) in
      rw (one_more j (omega arith), q, r, digits_again j (omega arith)) (sym (take-suc t j 0 (omega arith)))

  below : (j : ℕ) → j ≤ length t → up_to j < 10 ^ j
  unfolding value_from
  below zero h = omega arith
  below (suc j) h =
      let ok = each j (omega arith) in
      rw (one_more j (omega arith), pow-suc) (omega (arith, ok.1, below j (omega arith)))

  from : 49 ≤ get_or t 0 0 → (j : ℕ) → suc j ≤ length t → 10 ^ j ≤ up_to (suc j)
  unfolding value_from
  from front zero h = rw (one_more 0 (omega arith)) (omega (arith, front))
  from front (suc j) h = rw (one_more (suc j) (omega arith), pow-suc) (omega (arith, from front j (omega arith)))

-- 10 to the power j or more, and less than ten times that: so there are j + 1 digits
places_are : (j n : ℕ) → n < 2 ^ 32 → 0 < n → 10 ^ j ≤ n → n < 10 ^ suc j → suc j ≡ places 9 n
places_are j n h pos low high = go (dec_lt (suc j) (places 9 n)) (dec_lt (places 9 n) (suc j))
  where
    go : Dec (suc j < places 9 n) → Dec (places 9 n < suc j) → suc j ≡ places 9 n
    go (yes more) less = absurd (omega (arith, high, places_least 9 n pos, pow-le-pow_right {n = 10} (omega arith) {i = suc j} {j = places 9 n - 1} (omega arith)))
    go (no more) (yes less) = absurd (omega (arith, low, places_enough 9 n (omega arith), pow-le-pow_right {n = 10} (omega arith) {i = places 9 n} {j = j} (omega arith)))
    go (no more) (no less) = omega arith

pub one_decimal : OneDecimal
unfolding decimal
one_decimal n t h d = go (dec_lt n 10)
  where
    whole : value_from 0 (take (length t) t) ≡ n
    whole = ap (value_from 0) (take-length t) ∙ d.value

    again : digits (length t) n ≡ t
    again = ap (digits (length t)) (sym whole) ∙ digits_again t d.each (length t) (le_refl _) ∙ take-length t

    many : (k : ℕ) → k ≡ length t → 10 ≤ n → length t ≡ places 9 n
    many zero e big =
        let one : 10 ^ length t ≡ 1 = ap (λ (k : ℕ). 10 ^ k) (sym e) in
        absurd (omega (arith, whole, one, below t d.each (length t) (le_refl _)))
    many (suc j) e big =
        let low : 10 ^ j ≤ n = rw (e, whole) at (from t d.each (d.front big) j (omega arith)) in
        let high : n < 10 ^ suc j = rw (whole, ← e) at (below t d.each (length t) (le_refl _)) in
        sym e ∙ places_are j n h (omega arith) low high

    go : Dec (n < 10) → t ≡ digits (places 9 n) n
    go (yes lt) = d.one lt ∙ sym (decimal_one n lt)
    go (no ge) = sym again ∙ ap (λ (k : ℕ). digits k n) (many (length t) refl (omega arith))
