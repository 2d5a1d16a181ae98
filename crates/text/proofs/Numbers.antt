-- Reading the number that bytes begin with: modulo 2 to the power 32, digit after digit; and as it is, past i digits.
use mathlib.Core.Path.{◌≡◌, refl, sym, ◌∙◌, ap}
use mathlib.Core.Bool.{true, false, cond}
use mathlib.Core.List.{List, [], ◌∷◌}
use Prim.Native.Nat.{ℕ, zero, suc, ◌+◌, ◌*◌, ◌-◌, ◌%◌, ◌^◌, ◌≤◌, ◌<◌}
use native.Mathlib.Nat.{mod-eq_of_lt, pow-suc, pow-le-pow_right, lt_of_lt_of_le}
use native.Mathlib.Numerals.{add-one}
use native.Mathlib.Omega.{arith}
use borrow.Author.Tests.{le-leb, lt-leb}
use lib.ListN.{length, drop, drop_of_length-le}
use lib.Seq.{drop-cons}
use Rattle.layout.specs.Layout.{at}
use Rattle.std.specs.Char.{is_ascii_digit}
use Rattle.text.specs.Text.{leading, value_from}

-- behind the number v, at most `most` digits of bs are left
abbrev pub reading : ℕ → ℕ → List ℕ → ℕ
reading v most bs = value_from v (leading most bs) % 2 ^ 32

same_value : (v w : ℕ) (ds : List ℕ) → v % 2 ^ 32 ≡ w % 2 ^ 32 → value_from v ds % 2 ^ 32 ≡ value_from w ds % 2 ^ 32
unfolding value_from
same_value v w [] e = e
same_value v w (d ∷ ds) e = same_value (v * 10 + (d - 48)) (w * 10 + (d - 48)) ds (omega arith)

none_left : (v most : ℕ) (bs : List ℕ) → v < 2 ^ 32 → leading most bs ≡ [] → v ≡ reading v most bs
unfolding value_from
none_left v most bs small e = rw (e, mod-eq_of_lt small)

pub read_all : (v most : ℕ) (bs : List ℕ) → v < 2 ^ 32 → (0 < most → length bs ≡ 0) → v ≡ reading v most bs
unfolding leading
read_all v most bs small end = none_left v most bs small (go most bs end)
  where
    go : (most : ℕ) (bs : List ℕ) → (0 < most → length bs ≡ 0) → leading most bs ≡ []
    go zero bs end = refl
    go (suc most) [] end = refl
    go (suc most) (b ∷ bs) end = absurd (omega (arith, end (omega arith)))

-- the byte d is next
module _ (v left d : ℕ) (rest : List ℕ) where
  step : leading (left + 1) (d ∷ rest) ≡ cond (is_ascii_digit d) (d ∷ leading left rest) []
  unfolding leading
  step = rw add-one

  pub read_stop : v < 2 ^ 32 → is_ascii_digit d ≡ false → v ≡ reading v (left + 1) (d ∷ rest)
  read_stop small none = none_left v (left + 1) (d ∷ rest) small (step ∙ rw none)

  pub read_more : is_ascii_digit d ≡ true → reading ((v * 10 % 2 ^ 32 + (d - 48)) % 2 ^ 32) left rest ≡ reading v (left + 1) (d ∷ rest)
  unfolding value_from
  read_more one = rw (step, one) (same_value ((v * 10 % 2 ^ 32 + (d - 48)) % 2 ^ 32) (v * 10 + (d - 48)) (leading left rest) (omega arith))

-- the ways on
pub ruleset reading_steps = (read_all, read_stop, read_more)

-- the number itself, of at most ten digits: what is known past i of them
leading_none : (most : ℕ) → leading most [] ≡ []
unfolding leading
leading_none zero = refl
leading_none (suc most) = refl

pub record Reading (bs : List ℕ) (value i : ℕ) : Type 0 where
  pub few : i ≤ 10
  pub small : value < 10 ^ i
  pub same : value_from 0 (leading 10 bs) ≡ value_from value (leading (10 - i) (drop i bs))

pub reading_none : (bs : List ℕ) → Reading bs 0 0
reading_none bs = record { few = omega arith; small = omega arith; same = refl }

module _ {bs : List ℕ} {value i : ℕ} (r : Reading bs value i) where
  stops : leading (10 - i) (drop i bs) ≡ [] → value ≡ value_from 0 (leading 10 bs)
  unfolding value_from
  stops e = sym (r.same ∙ rw e)

  pub reading_past : length bs ≤ i → value ≡ value_from 0 (leading 10 bs)
  reading_past h = stops (ap (leading (10 - i)) (drop_of_length-le bs {i = i} h) ∙ leading_none (10 - i))

  pub reading_ten : 10 ≤ i → value ≡ value_from 0 (leading 10 bs)
  unfolding leading
  reading_ten h =
      let z : 10 - i ≡ 0 = omega arith in
      stops (rw z)

  module _ (lt : i < 10) (there : i < length bs) where
    abbrev digit : ℕ
    digit = at bs i

    next : drop i bs ≡ digit ∷ drop (i + 1) bs
    next =
        let e : suc i ≡ i + 1 = omega arith in
        drop-cons bs i 0 there ∙ ap (λ (t : ℕ). digit ∷ drop t bs) e

    more : 10 - i ≡ suc (10 - (i + 1))
    more = omega arith

    pub reading_low : digit < 48 → value ≡ value_from 0 (leading 10 bs)
    unfolding leading
    reading_low h = stops (rw (next, more, lt-leb 48 digit h))

    pub reading_high : 57 < digit → value ≡ value_from 0 (leading 10 bs)
    unfolding leading
    reading_high h = stops (rw (next, more, le-leb 48 digit (omega arith), lt-leb digit 57 h))

    pub reading_more : 48 ≤ digit → digit ≤ 57 → Reading bs (value * 10 + (digit - 48)) (i + 1)
    unfolding leading value_from
    reading_more a b =
        let l : leading (10 - i) (drop i bs) ≡ digit ∷ leading (10 - (i + 1)) (drop (i + 1) bs) = rw (next, more, le-leb 48 digit a, le-leb digit 57 b) in
        record { few = omega arith; small = rw (add-one i, pow-suc) (omega (arith, r.small)); same = r.same ∙ rw l }

  pub value_small : value < 10000000000
  value_small = lt_of_lt_of_le r.small (pow-le-pow_right {n = 10} (omega arith) {i = i} {j = 10} r.few)

-- wherever the reading stops, the number is read
pub ruleset reading_stops = (reading_past, reading_low, reading_high, reading_ten)
