-- What crosses to C and back: the mode as two numbers, the refusal as its number.
use Rattle.std.specs.Prelude.{ℕ, zero, suc, Option, Some, None, Result, Err}
use Rattle.modes.specs.declared.Initial.TheVariants as initial
use Rattle.modes.specs.declared.Mode.{Mode}
use Rattle.modes.specs.declared.Mode.TheVariants.{Plain, Sorted, Strict}
use Rattle.answers.specs.declared.Refusal.{Refusal}
use Rattle.answers.specs.declared.Refusal.TheVariants.{BadHeader}
use Rattle.answers.specs.Answers.{number_in, length_in}
use Rattle.sisalshed.specs.declared.CAnswer.{CAnswer}

-- kind 0 plain, 1 sorted, 2 strict with none, 3 strict with a number; `first` is ignored for 0 and 2. There is no other kind.
abbrev pub mode_of : ℕ → ℕ → Option Mode
mode_of zero first = Some Plain
mode_of (suc zero) first = Some (Sorted first)
mode_of (suc (suc zero)) first = Some (Strict initial.None)
mode_of (suc (suc (suc zero))) first = Some (Strict (initial.Number first))
mode_of (suc (suc (suc (suc kind)))) first = None

-- the way back: a mode's kind, and the number that it carries, 0 where it carries none
abbrev pub kind_of : Mode → ℕ
kind_of Plain = 0
kind_of (Sorted f) = 1
kind_of (Strict initial.None) = 2
kind_of (Strict (initial.Number f)) = 3

abbrev pub first_given : Mode → ℕ
first_given Plain = 0
first_given (Sorted f) = f
first_given (Strict initial.None) = 0
first_given (Strict (initial.Number f)) = f

-- what a call of ours answers, a width too, with the refusal's number
abbrev pub crossed : Result ℕ Refusal → CAnswer
crossed r = record { number = number_in r; length = length_in r }

-- a kind that there is not is 12, before every other number, with length 0
abbrev pub bad_kind : CAnswer
bad_kind = crossed (Err BadHeader)

-- what comes of the mode of a kind, and of a kind that there is not
abbrev pub by_kind : {A : Type 0} → ℕ → ℕ → (Mode → A) → A → A
by_kind kind first given otherwise = elim (mode_of kind first) [ Some m ↦ given m | None ↦ otherwise ]
