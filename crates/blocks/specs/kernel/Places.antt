-- Rows of words in bytes and rows of values, at their place.
use Rattle.std.specs.Prelude.{◌≡◌, List, ℕ, ◌+◌, ◌*◌, ◌-◌, ◌/◌, ◌%◌, ◌^◌, ◌≤◌, ◌<◌, set, length}
use Rattle.layout.specs.Layout.{at}

-- x is row r of e 0, e 1, ..: "Entry k is in lane k mod L and row k div L."
abbrev pub RowOf : ℕ → (ℕ → ℕ) → ℕ → List ℕ → Type 0
RowOf L e r x = (l : ℕ) → l < L → at x l ≡ e (r * L + l)

-- the bytes with the word v stored from byte i on
abbrev pub with_word : List ℕ → ℕ → ℕ → List ℕ
with_word bs i v =
    set (set (set (set bs i (v % 256)) (i + 1) (v / 256 % 256)) (i + 2) (v / 65536 % 256)) (i + 3) (v / 16777216 % 256)

-- after has the row x in the bytes of the words from base on, and before's bytes elsewhere
pub record WordsStored (base lanes : ℕ) (x before after : List ℕ) : Type 0 where
  pub size : length after ≡ length before
  pub inside : (i : ℕ) → 4 * base ≤ i → i < 4 * (base + lanes) → at after i ≡ at x (i / 4 - base) / 2 ^ (8 * (i % 4)) % 256
  pub below : (i : ℕ) → i < 4 * base → at after i ≡ at before i
  pub above : (i : ℕ) → 4 * (base + lanes) ≤ i → at after i ≡ at before i

-- after has the row x in the values from base on, and before's values elsewhere
pub record RowStored (base lanes : ℕ) (x before after : List ℕ) : Type 0 where
  pub size : length after ≡ length before
  pub inside : (l : ℕ) → l < lanes → at after (base + l) ≡ at x l
  pub below : (i : ℕ) → i < base → at after i ≡ at before i
  pub above : (i : ℕ) → base + lanes ≤ i → at after i ≡ at before i
