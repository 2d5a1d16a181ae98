-- What is written of an answer. Nothing of document 01.
use Rattle.std.specs.Prelude.{ℕ, Option, Some, Result, Ok, Err, List, ◌++◌, codes, option_map}
use Rattle.std.specs.Fmt.{decimal}
use Rattle.answers.specs.declared.Refusal.{Refusal}
use Rattle.answers.specs.Refusals.{number_of}

-- 0 and what is answered, or the number of the refusal and 0
abbrev pub answer_text : {A : Type 0} → (A → Option (List ℕ)) → Result A Refusal → Option (List ℕ)
answer_text text (Ok x) = option_map (λ bytes. codes "0," ++ bytes) (text x)
answer_text text (Err k) = Some (decimal (number_of k) ++ codes ",0")

-- that, and the checksum of the output
abbrev pub outcome_text : Result ℕ Refusal → ℕ → Option (List ℕ)
outcome_text answer sum = option_map (λ bytes. bytes ++ codes "," ++ decimal sum) (answer_text (λ n. Some (decimal n)) answer)
