-- Widths: what fits, the least that fits, and that or-ing finds it.
use mathlib.Core.Path.{◌≡◌, refl, sym, ◌∙◌}
use mathlib.Core.Bool.{Bool, true, false, ◌&&◌, cond}
use mathlib.Core.Logic.{◌↔◌}
use Prim.Native.Nat.{ℕ, zero, suc, ◌+◌, ◌*◌, ◌-◌, ◌/◌, ◌%◌, ◌^◌, ◌≤◌, ◌<◌}
use native.Mathlib.Nat.{lt_of_le_of_lt, lt_of_lt_of_le, div-add-mod', mod-lt, div-lt_iff_lt-mul, add-zero, add-suc, suc-add}
use native.Mathlib.Omega.{arith}
use native.Mathlib.Decide.{dec_lt, ℕ_discrete}
use borrow.Author.Tests.{lt-ltb, ltb-true}
use lib.Dec.{ltb}
use lib.Pow.{pow_pos, pow_mono}
use lib.Bits.{bit_or, or_lt, or_comm, or_add_and, and_le_r}
use lib.Count.{count_leading_zeros, leading_top}
use Rattle.layout.specs.Claims.{Fit, Least}
use Rattle.layout.specs.Width.{fits, least_from, least_width, significant, or_all}
use Rattle.layout.proofs.Products.{below_mul, factor_pos}

pub and_both : (a b : Bool) → a && b ≡ true → (a ≡ true) × (b ≡ true)
and_both true b h = (refl, h)
and_both false b h = let z : ◌≡◌ {A = ℕ} 0 1 = cc in absurd (omega arith)

pub of_fits : (e : ℕ → ℕ) (m n : ℕ) → fits e m n ≡ true → Fit e m n
unfolding fits
of_fits e zero n t k h = absurd (omega arith)
of_fits e (suc m) n t k h = go (λ lt. of_fits e m n (and_both (fits e m n) (ltb (e m) (2 ^ n)) t).0 k lt) (dec_lt k m)
  where
    go : (k < m → e k < 2 ^ n) → Dec (k < m) → e k < 2 ^ n
    go ih (yes lt) = ih lt
    go ih (no ge) =
        let i : k ≡ m = omega arith in
        rw i (ltb-true (e m) (2 ^ n) (and_both (fits e m n) (ltb (e m) (2 ^ n)) t).1)

pub fits_of : (e : ℕ → ℕ) (m n : ℕ) → Fit e m n → fits e m n ≡ true
unfolding fits
fits_of e zero n f = refl
fits_of e (suc m) n f = rw (fits_of e m n (λ k h. f k (omega arith)), lt-ltb (e m) (2 ^ n) (f m (omega arith)))

-- one more fits
pub fit_more : (e : ℕ → ℕ) (m n : ℕ) → Fit e m n → e m < 2 ^ n → Fit e (m + 1) n
fit_more e m n f h k lt = go (dec_lt k m)
  where
    go : Dec (k < m) → e k < 2 ^ n
    go (yes l) = f k l
    go (no ge) =
        let i : k ≡ m = omega arith in
        rw i h

-- one does not: then they do not
pub fits_fails : (e : ℕ → ℕ) (m n k : ℕ) → k < m → 2 ^ n ≤ e k → fits e m n ≡ false
fits_fails e m n k h big = go (fits e m n) refl
  where
    go : (b : Bool) → fits e m n ≡ b → fits e m n ≡ false
    go false q = q
    go true q = absurd (omega (arith, of_fits e m n q k h))

pub fits_ext : (e f : ℕ → ℕ) (m n : ℕ) → ((k : ℕ) → k < m → e k ≡ f k) → fits e m n ≡ fits f m n
unfolding fits
fits_ext e f zero n same = refl
fits_ext e f (suc m) n same = rw (same m (omega arith), fits_ext e f m n (λ k h. same k (omega arith)))

pub least_unique : {e : ℕ → ℕ} {m a b : ℕ} → Least e m a → Least e m b → a ≡ b
least_unique {e} {m} {a} {b} p q = omega (arith, p.least b q.fit, q.least a p.fit)

pub least_ext : {e f : ℕ → ℕ} {m n : ℕ} → ((k : ℕ) → k < m → e k ≡ f k) → Least e m n → Least f m n
least_ext {e} {f} {m} {n} same l =
    record { fit = λ k h. rw (← same k h) (l.fit k h); least = λ j g. l.least j (λ k h. rw (same k h) (g k h)) }

-- no width below n fits, and n + t does
least_search : (e : ℕ → ℕ) (m n t : ℕ) → ((j : ℕ) → Fit e m j → n ≤ j) → Fit e m (n + t) → Least e m (least_from e m n t)
unfolding least_from
least_search e m n zero low f = record { fit = rw add-zero at f; least = low }
least_search e m n (suc t) low f = go (λ h. least_search e m (suc n) t h (rw (suc-add, ← add-suc) f)) (fits e m n) refl
  where
    further : fits e m n ≡ false → (j : ℕ) → Fit e m j → suc n ≤ j
    further bad j g = next (dec_lt n j)
      where
        next : Dec (n < j) → suc n ≤ j
        next (yes h) = h
        next (no h) =
            let same : j ≡ n = omega (arith, low j g) in
            let both : true ≡ false = sym (fits_of e m n (rw same at g)) ∙ bad in
            let z : ◌≡◌ {A = ℕ} 0 1 = cc in absurd (omega arith)

    go : (((j : ℕ) → Fit e m j → suc n ≤ j) → Least e m (least_from e m (suc n) t)) → (b : Bool) → fits e m n ≡ b → Least e m (cond (fits e m n) n (least_from e m (suc n) t))
    go ih true q = rw q (record { fit = of_fits e m n q; least = low })
    go ih false q = rw q (ih (further q))

-- numbers of 32 bits have a least width, which is at most 32
pub width_least : (e : ℕ → ℕ) (m : ℕ) → Fit e m 32 → Least e m (least_width e m)
unfolding least_width
width_least e m f = least_search e m 0 32 (λ j g. omega arith) f

pub width_small : (e : ℕ → ℕ) (m : ℕ) → Fit e m 32 → least_width e m ≤ 32
width_small e m f = (width_least e m f).least 32 f

-- whatever is measured, the width is at most 32
least_most : (e : ℕ → ℕ) (m n more : ℕ) → least_from e m n more ≤ n + more
unfolding least_from
least_most e m n zero = omega arith
least_most e m n (suc more) = go (fits e m n) (least_most e m (suc n) more)
  where
    go : (b : Bool) → least_from e m (suc n) more ≤ suc n + more → cond b n (least_from e m (suc n) more) ≤ n + suc more
    go true h = omega arith
    go false h = omega arith

pub width_most : (e : ℕ → ℕ) (m : ℕ) → least_width e m ≤ 32
unfolding least_width
width_most e m = least_most e m 0 32

pub width_is : {e : ℕ → ℕ} {m n : ℕ} → Least e m n → n ≤ 32 → least_width e m ≡ n
width_is {e} {m} {n} l h = least_unique (width_least e m (λ k lt. lt_of_lt_of_le (l.fit k lt) (pow_mono h))) l

-- the least width depends on the numbers alone
pub width_ext : {e f : ℕ → ℕ} {m : ℕ} → Fit e m 32 → ((k : ℕ) → k < m → e k ≡ f k) → least_width f m ≡ least_width e m
width_ext {e} {f} {m} all same = width_is (least_ext same (width_least e m all)) (width_small e m all)

-- "A block fits n" exactly when its least width is at most n
pub fits_exactly : (e : ℕ → ℕ) (m n : ℕ) → Fit e m 32 → (fits e m n ≡ true) ↔ (least_width e m ≤ n)
fits_exactly e m n f = (
  λ t. (width_least e m f).least n (of_fits e m n t),
  λ h. fits_of e m n (λ k lt. lt_of_lt_of_le ((width_least e m f).fit k lt) (pow_mono h)),
)

pub fits_not : (e : ℕ → ℕ) (m n : ℕ) → Fit e m 32 → n < least_width e m → fits e m n ≡ false
fits_not e m n f h = go (fits e m n) refl
  where
    go : (b : Bool) → fits e m n ≡ b → fits e m n ≡ false
    go false q = q
    go true q = absurd (omega (arith, (fits_exactly e m n f).0 q))

-- Or-ing. x fits the same widths as e 0, .., e (m - 1) do together.
record Joins (e : ℕ → ℕ) (m x : ℕ) : Type 0 where
  down : (n : ℕ) → x < 2 ^ n → Fit e m n
  up : (n : ℕ) → Fit e m n → x < 2 ^ n

le_or : (a b : ℕ) → a ≤ bit_or a b
le_or a b = omega (arith, or_add_and a b, and_le_r a b)

joins_or : (e : ℕ → ℕ) (m : ℕ) → Joins e m (or_all e m)
unfolding or_all
joins_or e zero = record { down = λ n h k lt. absurd (omega arith); up = λ n f. pow_pos n }
joins_or e (suc m) =
    let j = joins_or e m in
    record {
      down = λ n h k lt. go j n h k lt (ℕ_discrete k m);
      up = λ n f. or_lt n (or_all e m) (e m) (j.up n (λ k lt. f k (omega arith))) (f m (omega arith));
    }
  where
    go : Joins e m (or_all e m) → (n : ℕ) → bit_or (or_all e m) (e m) < 2 ^ n → (k : ℕ) → k < suc m → Dec (k ≡ m) → e k < 2 ^ n
    go j n h k lt (yes eq) = rw eq (lt_of_le_of_lt (rw or_comm (le_or (e m) (or_all e m))) h)
    go j n h k lt (no ne) = j.down n (lt_of_le_of_lt (le_or (or_all e m) (e m)) h) k (omega arith)

-- lane by lane, and then over the lanes
joins_lanes : (L m : ℕ) (e x : ℕ → ℕ) → ((l : ℕ) → l < L → Joins (λ i. e (i * L + l)) m (x l)) → (y : ℕ) → Joins x L y → Joins e (m * L) y
joins_lanes L m e x lane y j =
    record {
      down = down;
      up = λ n f. j.up n (λ l h. (lane l h).up n (λ i lt. f (i * L + l) (omega (arith, below_mul L lt))));
    }
  where
    down : (n : ℕ) → y < 2 ^ n → (k : ℕ) → k < m * L → e k < 2 ^ n
    down n h k lt =
        let pos : 0 < L = factor_pos m L k lt in
        rw div-add-mod' at ((lane (k % L) (mod-lt k pos)).down n (j.down n h (k % L) (mod-lt k pos)) (k / L) ((div-lt_iff_lt-mul pos).1 lt))

-- 32 less the leading zeros of such an x is the least width
joins_least : (e : ℕ → ℕ) (m x : ℕ) → Joins e m x → Fit e m 32 → least_width e m ≡ significant x
unfolding significant
joins_least e m zero j f = width_is (record { fit = j.down 0 (omega arith); least = λ i g. omega arith }) (omega arith)
joins_least e m (suc x) j f =
    let t = leading_top 32 (suc x) (omega arith) (j.up 32 f) in
    let w : 32 - count_leading_zeros 32 (suc x) ≡ suc t.0 = omega (arith, t.1) in
    rw w (width_is (record { fit = j.down (suc t.0) t.3; least = λ i g. above i t.0 t.2 (j.up i g) }) (omega (arith, t.1)))
  where
    above : (i k : ℕ) → 2 ^ k ≤ suc x → suc x < 2 ^ i → k < i
    above i k lo hi = up (dec_lt k i)
      where
        up : Dec (k < i) → k < i
        up (yes q) = q
        up (no q) =
            let c : 2 ^ i ≤ 2 ^ k = pow_mono (omega arith) in
            absurd (omega arith)

-- "it is 32 less the leading zeros of all entries or-ed together, and 0 if that is 0"
pub least_by_or : (e : ℕ → ℕ) (m : ℕ) → Fit e m 32 → least_width e m ≡ significant (or_all e m)
least_by_or e m f = joins_least e m (or_all e m) (joins_or e m) f

-- the same where each lane l was or-ed into x l first
pub least_by_lanes : (L m : ℕ) (e x : ℕ → ℕ) → ((l : ℕ) → l < L → x l ≡ or_all (λ i. e (i * L + l)) m) → Fit e (m * L) 32
    → least_width e (m * L) ≡ significant (or_all x L)
least_by_lanes L m e x lane f =
    joins_least e (m * L) (or_all x L) (joins_lanes L m e x (λ l h. rw (lane l h) (joins_or (λ i. e (i * L + l)) m)) (or_all x L) (joins_or x L)) f
