-- What is claimed of numbers as texts: "Numbers are decimal, at most 4,294,967,295, without leading zeros." (proofs/Claims, is_decimal and one_decimal)
use Rattle.std.specs.Prelude.{◌≡◌, List, [], ◌∷◌, ℕ, ◌+◌, ◌^◌, ◌≤◌, ◌<◌, length, get_or}
use Rattle.text.specs.Text.{decimal, value_from}

pub record IsDecimal (n : ℕ) (text : List ℕ) : Type 0 where
  -- digits, 48 to 57, which stand for n
  pub each : (k : ℕ) → k < length text → (48 ≤ get_or text k 0) × (get_or text k 0 ≤ 57)
  pub value : value_from 0 text ≡ n
  -- one of them below 10, and from 10 on the first is not 0
  pub one : n < 10 → text ≡ (48 + n) ∷ []
  pub front : 10 ≤ n → 49 ≤ get_or text 0 0

abbrev pub Decimals : Type 0
Decimals = (n : ℕ) → n < 2 ^ 32 → IsDecimal n (decimal n)

-- and no other text is that number's
abbrev pub OneDecimal : Type 0
OneDecimal = (n : ℕ) (text : List ℕ) → n < 2 ^ 32 → IsDecimal n text → text ≡ decimal n
