-- "All differences and sums are taken modulo 4,294,967,296."
use Rattle.std.specs.Prelude.{ℕ, zero, suc, ◌+◌, ◌-◌, ◌%◌, ◌^◌}

abbrev pub plus : ℕ → ℕ → ℕ
plus a b = (a + b) % 2 ^ 32

-- (b is below 2 to the power 32)
abbrev pub minus : ℕ → ℕ → ℕ
minus a b = (a + (2 ^ 32 - b)) % 2 ^ 32

-- the number before number k of v 0, v 1, ..: p before the first
abbrev pub before : ℕ → (ℕ → ℕ) → ℕ → ℕ
before p v zero = p
before p v (suc k) = v k

-- the sums of p and d 0, .., d k
abbrev pub running : ℕ → (ℕ → ℕ) → ℕ → ℕ
running p d zero = plus p (d zero)
running p d (suc k) = plus (running p d k) (d (suc k))
