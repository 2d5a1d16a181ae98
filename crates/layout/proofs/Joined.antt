-- Numbers or-ed together.
use mathlib.Core.Path.{◌≡◌, refl, sym, ◌∙◌, ap}
use mathlib.Core.List.{List}
use Prim.Native.Nat.{ℕ, zero, suc, ◌+◌, ◌-◌, ◌≤◌, ◌<◌, min}
use native.Mathlib.Nat.{add-zero, add-suc}
use native.Mathlib.Decide.{dec_lt}
use native.Mathlib.Numerals.{add-one}
use native.Mathlib.Omega.{arith}
use lib.Bits.{bit_or, or_zero_r}
use lib.Count.{count_leading_zeros}
use lib.ListN.{length, get_or-eq_default}
use Rattle.layout.specs.Layout.{at}
use Rattle.layout.specs.Width.{or_all, significant}

-- nothing past the end of a list adds to its numbers or-ed together
or_past : (x : List ℕ) (m k : ℕ) → length x ≤ m → or_all (at x) (m + k) ≡ or_all (at x) m
unfolding or_all
or_past x m zero h = rw add-zero
or_past x m (suc k) h =
    rw (add-suc m k, or_all, get_or-eq_default x 0 {n = m + k} (omega arith), or_zero_r (or_all (at x) (m + k))) (or_past x m k h)

pub or_used : (x : List ℕ) (L : ℕ) → length x ≡ 8 → or_all (at x) (min L 8) ≡ or_all (at x) L
or_used x L h = go (dec_lt L 8)
  where
    go : Dec (L < 8) → or_all (at x) (min L 8) ≡ or_all (at x) L
    go (yes lt) =
        let e : min L 8 ≡ L = omega arith in
        ap (or_all (at x)) e
    go (no ge) =
        let e : min L 8 ≡ 8 = omega arith in
        let f : 8 + (L - 8) ≡ L = omega arith in
        ap (or_all (at x)) e ∙ sym (or_past x 8 (L - 8) (omega arith)) ∙ ap (or_all (at x)) f

-- a number other than 0 has 32 less its leading zeros
pub significant_of : (v : ℕ) → 0 < v → 32 - count_leading_zeros 32 v ≡ significant v
unfolding significant
significant_of zero h = absurd (omega arith)
significant_of (suc v) h = refl

-- or-ing one number more
pub or_none : (e : ℕ → ℕ) → 0 ≡ or_all e 0
unfolding or_all
or_none e = refl

pub or_more : (e : ℕ → ℕ) (m : ℕ) {x v : ℕ} → x ≡ or_all e m → v ≡ e m → bit_or x v ≡ or_all e (m + 1)
unfolding or_all
or_more e m p q = rw (add-one m, or_all, p, q)
