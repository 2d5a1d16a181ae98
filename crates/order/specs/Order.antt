-- The order of "Lists" in document 01, and a list's entries and values, one after another. The mode goes along with them: past a
-- value it is the list's mode with that value in place of the first number. So the ends of blocks play no part here: that "the
-- previous value of a block's first is the last value of the block before" is a claim (Claims, ListEntries and ListValues).
use Rattle.std.specs.Prelude.{Bool, true, ◌&&◌, cond, List, [], ◌∷◌, ℕ, leb, ltb, eqb, not, Result}
use Rattle.answers.specs.declared.Refusal.{Refusal}
use Rattle.answers.specs.declared.Refusal.TheVariants.{OutOfOrder}
use Rattle.answers.specs.Refusals.{accept, refuse}
use Rattle.answers.specs.Answers.{answer}
use Rattle.modes.specs.declared.Initial.{Initial}
use Rattle.modes.specs.declared.Initial.TheVariants.{None, Number}
use Rattle.modes.specs.declared.Mode.{Mode}
use Rattle.modes.specs.declared.Mode.TheVariants.{Plain, Sorted, Strict}
use Rattle.modes.specs.Entries.{first_of, entry_of, value_of}

-- "Strict with none, and strict with 4,294,967,295, put no bound on the first."
abbrev pub starting_initial : Initial → Initial
starting_initial None = None
starting_initial (Number f) = cond (eqb f 4294967295) None (Number f)

-- the mode that a list starts with. Past its first value, 4,294,967,295 bounds like any other number.
abbrev pub starting : Mode → Mode
starting Plain = Plain
starting (Sorted f) = Sorted f
starting (Strict i) = Strict (starting_initial i)

-- the mode past the value v
abbrev pub after : Mode → ℕ → Mode
after Plain v = Plain
after (Sorted f) v = Sorted v
after (Strict i) v = Strict (Number v)

unfoldable pub after_all : Mode → List ℕ → Mode
after_all m [] = m
after_all m (v ∷ vs) = after_all (after m v) vs

-- whether v may come next. "The order is in whole numbers, without wrap."
abbrev pub admits : Mode → ℕ → Bool
-- "Plain has no order."
admits Plain v = true
-- "In sorted mode each is at least the one before, .."
admits (Sorted f) v = leb f v
-- ".. in strict mode greater"
admits (Strict None) v = true
admits (Strict (Number f)) v = ltb f v

-- "the first is measured against the first number", and each other against the one before
unfoldable pub ordered : Mode → List ℕ → Bool
ordered m [] = true
ordered m (v ∷ vs) = admits m v && ordered (after m v) vs

-- the entry of the value v, and the value of the entry e, where it comes next
abbrev pub next_entry : Mode → ℕ → ℕ
next_entry m v = entry_of m (first_of m) v

abbrev pub next_value : Mode → ℕ → ℕ
next_value m e = value_of m (first_of m) e

-- the entries of the values vs
unfoldable pub entries_of : Mode → List ℕ → List ℕ
entries_of m [] = []
entries_of m (v ∷ vs) = next_entry m v ∷ entries_of (after m v) vs

-- the values of the entries es
unfoldable pub values_of : Mode → List ℕ → List ℕ
values_of m [] = []
values_of m (e ∷ es) = next_value m e ∷ values_of (after m (next_value m e)) es

-- the mode past the values vs, or 8 where they are not in order
abbrev pub course : Mode → List ℕ → Result Mode Refusal
course m vs = answer (refuse (not (ordered m vs)) OutOfOrder accept) (after_all m vs)
