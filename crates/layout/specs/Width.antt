-- Widths. "A block fits n when every entry is below 2 to the power n."
use Rattle.std.specs.Prelude.{Bool, true, ◌&&◌, cond, ℕ, zero, suc, ◌-◌, ◌^◌, ltb}
use Rattle.std.specs.Int.Bits.{bit_or}
use Rattle.std.specs.Int.Count.{count_leading_zeros}

-- whether e 0, .., e (m - 1) are below 2 to the power n
unfoldable pub fits : (ℕ → ℕ) → ℕ → ℕ → Bool
fits e zero n = true
fits e (suc m) n = fits e m n && ltb (e m) (2 ^ n)

-- n where e 0, .., e (m - 1) fit n, and else the first of the next `more` widths that they fit; the last of these if none
unfoldable pub least_from : (ℕ → ℕ) → ℕ → ℕ → ℕ → ℕ
least_from e m n zero = n
least_from e m n (suc more) = cond (fits e m n) n (least_from e m (suc n) more)

-- "Least width is the least n that the block fits", of 0 to 32. (32 is not tested: every entry is below 2 to the power 32.)
unfoldable pub least_width : (ℕ → ℕ) → ℕ → ℕ
least_width e m = least_from e m 0 32

-- e 0, .., e (m - 1) or-ed together
unfoldable pub or_all : (ℕ → ℕ) → ℕ → ℕ
or_all e zero = 0
or_all e (suc m) = bit_or (or_all e m) (e m)

-- the width of one number: 32 less its leading zeros, and 0 for 0. The least width "is 32 less the leading zeros of all
-- entries or-ed together, and 0 if that is 0": Claims, IsLeastWidth.
unfoldable pub significant : ℕ → ℕ
significant zero = 0
significant (suc v) = 32 - count_leading_zeros 32 (suc v)
