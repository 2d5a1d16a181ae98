-- The words of a line of a table: what the programs of checks are given. Nothing of document 01.
use Rattle.std.specs.Prelude.{ℕ, zero, suc, ◌+◌, ◌*◌, ◌%◌, Bool, false, cond, List, [], ◌∷◌, ◌==◌, length}
use Rattle.std.specs.List.{fold, before_first, after_first}
use Rattle.layout.specs.Layout.{at}
use Rattle.modes.specs.declared.Initial.{Initial}
use Rattle.modes.specs.declared.Initial.TheVariants.{None, Number}
use Rattle.modes.specs.declared.Mode.{Mode}
use Rattle.modes.specs.declared.Mode.TheVariants.{Plain, Sorted, Strict}

-- what stands before the first place of a letter, or all where it has none, and what stands behind it
unfoldable pub before_of : ℕ → List ℕ → List ℕ
before_of letter text = before_first (λ x. x == letter) text

unfoldable pub behind_of : ℕ → List ℕ → List ℕ
behind_of letter text = after_first (λ x. x == letter) text

-- a blank and then the letter
unfoldable pub is_name : ℕ → List ℕ → Bool
is_name letter text = cond (at text 0 == 32) (at text 1 == letter) false

-- the line from the name on that begins with the letter
unfoldable pub word_of : ℕ → List ℕ → List ℕ
word_of letter [] = []
word_of letter (x ∷ xs) = cond (is_name letter (x ∷ xs)) xs (word_of letter xs)

-- from behind its `=` to the next blank
unfoldable pub value_of : ℕ → List ℕ → List ℕ
value_of letter line = before_of 32 (behind_of 61 (word_of letter line))

-- a number of up to 64 bits with one digit more
unfoldable pub with_digit : ℕ → ℕ → ℕ
with_digit n digit = (n % 1844674407370955162 * 10 + digit % 48) % 18446744073709551616

unfoldable pub decimal_of : List ℕ → ℕ
decimal_of text = cond (length text == 0) 18446744073709551615 (fold with_digit 0 text)

-- the numbers of a word, `:` between them
unfoldable pub amount_of : ℕ → List ℕ → ℕ
amount_of letter line = decimal_of (before_of 58 (value_of letter line))

unfoldable pub second_of : ℕ → List ℕ → ℕ
second_of letter line = decimal_of (behind_of 58 (value_of letter line))

abbrev pub narrowed : ℕ → ℕ
narrowed n = n % 4294967296

-- `first=none` begins with n
unfoldable pub initial_in : List ℕ → Initial
initial_in first = cond (at first 0 == 110) None (Number (narrowed (decimal_of first)))

-- the second letter tells plain, sorted and strict apart
unfoldable pub mode_in : List ℕ → Mode
mode_in line =
    cond (at (value_of 109 line) 1 == 108) Plain
    (cond (at (value_of 109 line) 1 == 111) (Sorted (narrowed (amount_of 102 line))) (Strict (initial_in (before_of 58 (value_of 102 line)))))

-- the next number of a list with `,` between the numbers, and behind the last a step more than the number before
unfoldable pub next_listed : List ℕ → ℕ → ℕ → ℕ
next_listed text step before = cond (length text == 0) (narrowed (before + step)) (narrowed (decimal_of (before_of 44 text)))

-- the text from number k on
unfoldable pub list_from : List ℕ → ℕ → List ℕ
list_from text zero = text
list_from text (suc k) = behind_of 44 (list_from text k)

-- number k of the list; before the first is 0
unfoldable pub listed_before : List ℕ → ℕ → ℕ → ℕ
listed_before text step zero = 0
listed_before text step (suc k) = next_listed (list_from text k) step (listed_before text step k)

abbrev pub listed : List ℕ → ℕ → ℕ → ℕ
listed text step k = next_listed (list_from text k) step (listed_before text step k)
