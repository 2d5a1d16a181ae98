-- "1, 4 or 8" lanes.
use mathlib.Core.Path.{◌≡◌, refl, sym}
use mathlib.Core.Bool.{Bool, true, false}
use Prim.Native.Nat.{ℕ, ◌≤◌, ◌<◌}
use native.Mathlib.Omega.{arith}
use native.Mathlib.Decide.{dec_lt}
use borrow.Author.Tests.{eqb-true, ne_eqb}
use lib.Dec.{eqb}
use Rattle.layout.specs.Layout.{is_lanes}
use Rattle.answers.proofs.Refusals.{apart}

pub lanes_of : (L : ℕ) → is_lanes L ≡ true → (0 < L) × (L ≤ 8)
unfolding is_lanes
lanes_of L h = (low (dec_lt 0 L), high (dec_lt 8 L))
  where
    low : Dec (0 < L) → 0 < L
    low (yes p) = p
    low (no p) =
        let e : L ≡ 0 = omega arith in
        absurd (apart (sym (rw e at h)))

    high : Dec (8 < L) → L ≤ 8
    high (no p) = omega arith
    high (yes p) = absurd (apart (sym (rw (ne_eqb L 1 (λ e. omega arith), ne_eqb L 4 (λ e. omega arith), ne_eqb L 8 (λ e. omega arith)) at h)))

-- what holds for 1, 4 and 8 lanes holds for all lanes that there are
pub for_lanes : (P : ℕ → Type 0) → P 1 → P 4 → P 8 → (L : ℕ) → is_lanes L ≡ true → P L
unfolding is_lanes
for_lanes P one four eight L h = go (eqb L 1) refl (eqb L 4) refl (eqb L 8) refl
  where
    go : (a : Bool) → eqb L 1 ≡ a → (b : Bool) → eqb L 4 ≡ b → (c : Bool) → eqb L 8 ≡ c → P L
    go true p b q c r = rw (eqb-true L 1 p) one
    go false p true q c r = rw (eqb-true L 4 q) four
    go false p false q true r = rw (eqb-true L 8 r) eight
    go false p false q false r = absurd (apart (sym (rw (p, q, r) at h)))
