-- What is claimed of the numbers (proofs/Numbers): no two outcomes have one, so that a number, 0 for none, says which refusal is given.
use Rattle.std.specs.Prelude.{◌≡◌, cond, ℕ}
use Rattle.answers.specs.Refusals.{Tested, accepted}
use Rattle.answers.specs.Answers.{answer, number_in, length_in}

abbrev pub NumbersApart : Type 0
NumbersApart = (k l : Tested) → number_in k ≡ number_in l → k ≡ l

-- .. and an answer has the number of what came of the tests, and length 0 with a refusal
abbrev pub NumberAndLength : Type 0
NumberAndLength = (k : Tested) (size : ℕ) → (number_in (answer k size) ≡ number_in k) × (length_in (answer k size) ≡ cond (accepted k) size 0)
