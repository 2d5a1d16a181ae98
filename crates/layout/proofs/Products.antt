-- Products of rows and lanes.
use mathlib.Core.Path.{◌≡◌, ◌∙◌, ap, subst}
use Prim.Native.Nat.{ℕ, zero, suc, ◌+◌, ◌*◌, ◌≤◌, ◌<◌}
use native.Mathlib.Nat.{add-mul, one-mul, mul-zero, mul-le-mul_right}
use native.Mathlib.Omega.{arith}

pub one_more : (a b : ℕ) → (a + 1) * b ≡ a * b + b
one_more a b = add-mul a 1 b ∙ ap (λ (m : ℕ). a * b + m) (one-mul b)

pub below_mul : {a b : ℕ} (c : ℕ) → a < b → a * c + c ≤ b * c
below_mul {a} {b} c h = subst (λ (m : ℕ). m ≤ b * c) (one_more a c) (mul-le-mul_right c (omega arith))

-- something is below a product only if the factor is above 0
pub factor_pos : (a b i : ℕ) → i < a * b → 0 < b
factor_pos a zero i h = absurd (omega (arith, mul-zero a))
factor_pos a (suc b) i h = omega arith
