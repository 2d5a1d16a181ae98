-- What a call answers, and what it leaves in lent memory.
use Rattle.std.specs.Prelude.{cond, List, ◌++◌, ℕ, length, drop, Result, Ok, Err}
use Rattle.answers.specs.declared.Refusal.{Refusal}
use Rattle.answers.specs.Refusals.{Tested, number_of, accepted}

-- a length, or what else is answered, where it is accepted, and else the refusal
abbrev pub answer : {A : Type 0} → Tested → A → Result A Refusal
answer (Ok t) size = Ok size
answer (Err k) size = Err k

-- "Each returns its number, length 0 (width 0, count 0)": these two of each answer. 0 stands for no refusal.
abbrev pub number_in : {A : Type 0} → Result A Refusal → ℕ
number_in (Ok size) = 0
number_in (Err k) = number_of k

abbrev pub length_in : Result ℕ Refusal → ℕ
length_in (Ok size) = size
length_in (Err k) = 0

-- "Memory past those is unchanged": new at the front, and the rest as before
abbrev pub over : List ℕ → List ℕ → List ℕ
over new before = new ++ drop (length new) before

-- ".. and leaves lent memory unchanged."
abbrev pub written : Tested → List ℕ → List ℕ → List ℕ
written k new before = cond (accepted k) (over new before) before
