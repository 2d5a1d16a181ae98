-- Texts as bytes: words, numbers in decimal, and lines. "Numbers are decimal, at most 4,294,967,295, without leading zeros."
use Rattle.std.specs.Prelude.{Bool, true, false, cond, ◌&&◌, Option, Some, None, List, [], ◌∷◌, ◌++◌, ℕ, zero, suc, ◌+◌, ◌*◌, ◌-◌, ◌/◌, ◌%◌, ◌^◌, leb, ltb, eqb, length, drop}
use Prim.Native.Char.{code}
use Prim.Native.String as S
use Rattle.text.specs.declared.Numeral.{Numeral}

-- the bytes of a word
abbrev pub word : S.String → List ℕ
word S.[] = []
word (S.◌∷◌ c s) = code c ∷ word s

-- the last k digits of n, the highest first
unfoldable pub digits : ℕ → ℕ → List ℕ
digits zero n = []
digits (suc k) n = digits k (n / 10) ++ ((48 + n % 10) ∷ [])

-- how many digits n has, if these are no more than `more` + 1
unfoldable pub places : ℕ → ℕ → ℕ
places zero n = 1
places (suc more) n = cond (ltb n 10) 1 (suc (places more (n / 10)))

-- n in decimal, without leading zeros, for an n of at most ten digits
unfoldable pub decimal : ℕ → List ℕ
decimal n = digits (places 9 n) n

-- "Each line ends in byte 10": a line, with the rest of a text behind it
abbrev pub ended : List ℕ → List ℕ → List ℕ
ended value rest = value ++ (10 ∷ rest)

-- a line that begins with a name
abbrev pub line : S.String → List ℕ → List ℕ → List ℕ
line name value rest = word name ++ ended value rest

-- the line of a name and a number
abbrev pub numbered : List ℕ → ℕ → List ℕ
numbered name n = name ++ ended (decimal n) []

-- whether bs begins with the text t
unfoldable pub begins : List ℕ → List ℕ → Bool
begins [] bs = true
begins (x ∷ t) [] = false
begins (x ∷ t) (b ∷ bs) = eqb x b && begins t bs

-- whether bs is the text t
abbrev pub same : List ℕ → List ℕ → Bool
same t bs = begins t bs && eqb (length t) (length bs)

-- the text t where there is room for it, and else nothing
abbrev pub fitted : List ℕ → List ℕ → List ℕ
fitted t before = cond (leb (length t) (length before)) t []

-- its length, where there is room for it
abbrev pub fitted_length : List ℕ → List ℕ → Option ℕ
fitted_length t before = cond (leb (length t) (length before)) (Some (length t)) None

-- the digits that bs begins with, at most `most` of them
unfoldable pub leading : ℕ → List ℕ → List ℕ
leading zero bs = []
leading (suc most) [] = []
leading (suc most) (b ∷ bs) = cond (leb 48 b && leb b 57) (b ∷ leading most bs) []

-- the number that some digits stand for, behind a number n
unfoldable pub value_from : ℕ → List ℕ → ℕ
value_from n [] = n
value_from n (d ∷ ds) = value_from (n * 10 + (d - 48)) ds

-- the number that bs begins with: its first ten digits, modulo 2 to the power 32. A number that this cuts or wraps does not pass for another:
-- number_line compares the text of what was found with bs.
abbrev pub leading_number : List ℕ → ℕ
leading_number bs = value_from 0 (leading 10 bs) % 2 ^ 32

-- the line of a name and a number that bs begins with, if there is one: the number, and the line's length
unfoldable pub number_line : List ℕ → List ℕ → Option Numeral
number_line name bs =
    let n = leading_number (drop (length name) bs) in
    cond (begins (numbered name n) bs) (Some (record { value = n; length = length (numbered name n) })) None
