-- Decimal digits: written the highest first, and read back.
use mathlib.Core.Path.{◌≡◌, refl, sym, ◌∙◌, ap}
use mathlib.Core.List.{List, [], ◌∷◌, ◌++◌}
use Prim.Native.Nat.{ℕ, zero, suc, ◌+◌, ◌*◌, ◌-◌, ◌/◌, ◌%◌, ◌^◌, ◌≤◌, ◌<◌}
use native.Mathlib.Nat.{pow-suc, pow-succ', div-div-eq-div-mul, div-lt_iff_lt-mul, div-one, mod-eq_of_lt}
use native.Mathlib.Numerals.{add-one}
use native.Mathlib.Omega.{arith}
use native.Mathlib.Decide.{dec_lt}
use borrow.Author.Tests.{lt-ltb, le-ltb, le-leb, lt-leb}
use lib.ListN.{length, length-append}
use Rattle.std.specs.Prelude.{Some}
use Rattle.text.specs.Text.{digits, places, decimal, fitted, fitted_length, leading, value_from, leading_number}

-- digits

pub length_digits : (k n : ℕ) → length (digits k n) ≡ k
unfolding digits
length_digits zero n = refl
length_digits (suc k) n = length-append (digits k (n / 10)) _ ∙ rw (length_digits k (n / 10)) (add-one k)

-- the highest of them in front
pub digits_front : (k n : ℕ) → digits (suc k) n ≡ (48 + n / 10 ^ k % 10) ∷ digits k n
unfolding digits
digits_front zero n = rw div-one
digits_front (suc k) n =
    let e : n / 10 / 10 ^ k ≡ n / 10 ^ suc k = div-div-eq-div-mul n 10 (10 ^ k) ∙ ap (λ (t : ℕ). n / t) (sym (pow-succ' 10 k)) in
    ap (λ (t : List ℕ). t ++ ((48 + n % 10) ∷ [])) (digits_front k (n / 10)) ∙ rw e

-- the number that they stand for

pub value_more : (m : ℕ) (ds : List ℕ) (d : ℕ) → value_from m (ds ++ (d ∷ [])) ≡ value_from m ds * 10 + (d - 48)
unfolding value_from
value_more m [] d = refl
value_more m (x ∷ ds) d = value_more (m * 10 + (x - 48)) ds d

pub value_digits : (k n : ℕ) → n < 10 ^ k → value_from 0 (digits k n) ≡ n
unfolding value_from digits
value_digits zero n h = omega arith
value_digits (suc k) n h =
    let less : n / 10 < 10 ^ k = (div-lt_iff_lt-mul {k = 10} (omega arith)).1 (rw pow-suc at h) in
    value_more 0 (digits k (n / 10)) (48 + n % 10) ∙ rw (value_digits k (n / 10) less) (omega arith)

-- as many as are needed, and no more

pub power_some : (k : ℕ) → 0 < 10 ^ k
power_some zero = omega arith
power_some (suc k) = rw pow-suc (omega (arith, power_some k))

pub places_one : (more n : ℕ) → n < 10 → places more n ≡ 1
unfolding places
places_one zero n h = refl
places_one (suc more) n h = rw (lt-ltb n 10 h)

pub places_some : (more n : ℕ) → 0 < places more n
unfolding places
places_some zero n = omega arith
places_some (suc more) n = go (dec_lt n 10)
  where
    go : Dec (n < 10) → 0 < places (suc more) n
    go (yes h) = rw (lt-ltb n 10 h) (omega arith)
    go (no h) = rw (le-ltb n 10 (omega arith)) (omega arith)

pub places_few : (more n : ℕ) → places more n ≤ suc more
unfolding places
places_few zero n = omega arith
places_few (suc more) n = go (places_few more (n / 10)) (dec_lt n 10)
  where
    go : places more (n / 10) ≤ suc more → Dec (n < 10) → places (suc more) n ≤ suc (suc more)
    go ih (yes h) = rw (lt-ltb n 10 h) (omega arith)
    go ih (no h) = rw (le-ltb n 10 (omega arith)) (omega arith)

pub places_enough : (more n : ℕ) → n < 10 ^ suc more → n < 10 ^ places more n
unfolding places
places_enough zero n h = h
places_enough (suc more) n h = go (places_enough more (n / 10)) (dec_lt n 10)
  where
    go : (n / 10 < 10 ^ suc more → n / 10 < 10 ^ places more (n / 10)) → Dec (n < 10) → n < 10 ^ places (suc more) n
    go ih (yes lt) = rw (lt-ltb n 10 lt) lt
    go ih (no ge) =
        let less : n / 10 < 10 ^ suc more = (div-lt_iff_lt-mul {k = 10} (omega arith)).1 (rw pow-suc at h) in
        rw (le-ltb n 10 (omega arith), pow-suc) ((div-lt_iff_lt-mul {k = 10} (omega arith)).0 (ih less))

-- a number below 10 to the power k has at most k digits, and one from there on has more
places_below : (more k n : ℕ) → n < 10 ^ suc k → places more n ≤ suc k
unfolding places
places_below zero k n h = omega arith
places_below (suc more) zero n h = rw (lt-ltb n 10 h) (omega arith)
places_below (suc more) (suc k) n h = go (places_below more k (n / 10) ((div-lt_iff_lt-mul {k = 10} (omega arith)).1 (rw pow-suc at h))) (dec_lt n 10)
  where
    go : places more (n / 10) ≤ suc k → Dec (n < 10) → places (suc more) n ≤ suc (suc k)
    go ih (yes less) = rw (lt-ltb n 10 less) (omega arith)
    go ih (no more) = rw (le-ltb n 10 (omega arith)) (omega arith)

pub places_least : (more n : ℕ) → 0 < n → 10 ^ (places more n - 1) ≤ n
unfolding places
places_least zero n pos = pos
places_least (suc more) n pos = go (places_least more (n / 10)) (places more (n / 10)) refl (places_some more (n / 10)) (dec_lt n 10)
  where
    go : (0 < n / 10 → 10 ^ (places more (n / 10) - 1) ≤ n / 10) → (p : ℕ) → places more (n / 10) ≡ p → 0 < p → Dec (n < 10) → 10 ^ (places (suc more) n - 1) ≤ n
    go ih p e some (yes lt) = rw (lt-ltb n 10 lt) pos
    go ih zero e some (no ge) = absurd (omega arith)
    go ih (suc q) e some (no ge) =
        let one : suc q - 1 ≡ q = omega arith in
        let two : suc (suc q) - 1 ≡ suc q = omega arith in
        let low : 10 ^ q ≤ n / 10 = rw (e, one) at (ih (omega arith)) in
        rw (le-ltb n 10 (omega arith), e, two, pow-suc) (omega (arith, low))

-- a decimal number below 2 to the power 32

pub decimal_short : (n : ℕ) → length (decimal n) ≤ 10
unfolding decimal
decimal_short n = rw (length_digits (places 9 n) n) (places_few 9 n)

pub decimal_below : (k n : ℕ) → n < 10 ^ suc k → length (decimal n) ≤ suc k
unfolding decimal
decimal_below k n h = rw (length_digits (places 9 n) n) (places_below 9 k n h)

pub decimal_some : (n : ℕ) → 0 < length (decimal n)
unfolding decimal
decimal_some n = rw (length_digits (places 9 n) n) (places_some 9 n)

pub decimal_one : (n : ℕ) → n < 10 → decimal n ≡ (48 + n) ∷ []
unfolding decimal digits
decimal_one n h = rw (places_one 9 n h, mod-eq_of_lt h)

-- its first digit in front
pub decimal_front : (n : ℕ) → (d : ℕ) × ((rest : List ℕ) × ((d ≤ 57) × (decimal n ≡ d ∷ rest)))
unfolding decimal
decimal_front n = go (places 9 n) (places_some 9 n)
  where
    go : (k : ℕ) → 0 < k → (d : ℕ) × ((rest : List ℕ) × ((d ≤ 57) × (digits k n ≡ d ∷ rest)))
    go zero some = absurd (omega arith)
    go (suc k) some = (48 + n / 10 ^ k % 10, (digits k n, (omega arith, digits_front k n)))

pub decimal_value : (n : ℕ) → n < 2 ^ 32 → value_from 0 (decimal n) ≡ n
unfolding decimal
decimal_value n h = value_digits (places 9 n) n (places_enough 9 n (omega arith))

-- all of them are read, up to byte 10 behind them
leading_digits : (k n most : ℕ) (rest : List ℕ) → k ≤ most → leading most (digits k n ++ (10 ∷ rest)) ≡ digits k n
unfolding leading digits
leading_digits zero n zero rest h = refl
leading_digits zero n (suc most) rest h = refl
leading_digits (suc k) n zero rest h = absurd (omega arith)
leading_digits (suc k) n (suc most) rest h =
    let d : ℕ = 48 + n / 10 ^ k % 10 in
    rw (digits_front k n, le-leb 48 d (omega arith), le-leb d 57 (omega arith)) (ap (λ (t : List ℕ). d ∷ t) (leading_digits k n most rest (omega arith)))

-- a number with byte 10 behind it is read
pub number_back : (n : ℕ) (rest : List ℕ) → n < 2 ^ 32 → leading_number (decimal n ++ (10 ∷ rest)) ≡ n
unfolding decimal
number_back n rest h =
    let l : leading 10 (decimal n ++ (10 ∷ rest)) ≡ decimal n = leading_digits (places 9 n) n 10 rest (places_few 9 n) in
    ap (λ (ds : List ℕ). value_from 0 ds % 2 ^ 32) l ∙ rw (decimal_value n h) (mod-eq_of_lt h)

-- a text is put where there is room for it
pub fitted_all : (t before : List ℕ) → length t ≤ length before → fitted t before ≡ t
fitted_all t before h = rw (le-leb (length t) (length before) h)

pub fitted_none : (t before : List ℕ) → length before < length t → fitted t before ≡ []
fitted_none t before h = rw (lt-leb (length t) (length before) h)

pub fitted_length_all : (t before : List ℕ) → length t ≤ length before → fitted_length t before ≡ Some (length t)
fitted_length_all t before h = rw (le-leb (length t) (length before) h)
