-- Checksums, bytes in hex, and where a letter stands: what the programs of checks read and write. Nothing of document 01.
use Rattle.std.specs.Prelude.{◌≡◌, ℕ, ◌+◌, ◌-◌, ◌*◌, ◌%◌, cond, List, [], ◌∷◌, ◌==◌, nat_lt, ⊤, Result, Ok}
use Rattle.std.specs.List.{fold, onto_first, FoldsTo}
use Rattle.layout.specs.Layout.{at}

-- the lines of a text, without the byte 10 that ends each
unfoldable pub lines : List ℕ → List (List ℕ)
lines [] = []
lines (x ∷ xs) = cond (x == 10) ([] ∷ lines xs) (onto_first x (lines xs))

-- each line of a text was passed in turn, and each time the answer was Ok
abbrev pub RanOn : {F E : Type 0} → (F → List ℕ → Result ⊤ E → F → Type 0) → F → List ℕ → Type 0
RanOn {F} called run text = (last : F) × FoldsTo (λ p line q. called p line (Ok tt) q) run (lines text) last

-- what a conversion gives of an item is its number
abbrev pub Converts : {A : Type 0} → (A → ℕ → Type 0) → (A → ℕ) → Type 0
Converts {A} converts number = (x : A) (n : ℕ) → converts x n → n ≡ number x

-- 31 times the checksum so far and the number of the next item, modulo 4,294,967,296
unfoldable pub sum_from : {A : Type 0} → (A → ℕ) → ℕ → List A → ℕ
sum_from number start xs = fold (λ sum x. (sum * 31 + number x) % 4294967296) start xs

-- 0 to 9 and a to f; any other letter is 0
abbrev pub digit_of : ℕ → ℕ
digit_of b = cond (nat_lt b 48) 0 (cond (nat_lt b 58) (b - 48) (cond (nat_lt b 97) 0 (cond (nat_lt b 103) (b - 87) 0)))

-- byte i of a hex number
abbrev pub hex_byte : List ℕ → ℕ → ℕ
hex_byte hex i = digit_of (at hex (2 * i)) * 16 + digit_of (at hex (2 * i + 1))

-- a small generator of numbers
abbrev pub noise_after : ℕ → ℕ
noise_after x = (x * 1103515245 + 12345) % 4294967296
