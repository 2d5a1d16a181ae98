-- What a text is refused for before its list is packed: a part of the code says it, and nobody need believe it.
use Rattle.std.specs.Prelude.{not, List, ℕ, ltb, length}
use Rattle.answers.specs.declared.Refusal.TheVariants.{TooMany, BadHeader}
use Rattle.answers.specs.Refusals.{Tested, accept, refuse, or_else}
use Rattle.bodies.specs.List.{most}
use Rattle.programs.specs.Programs.{limit_refusal, values_in, is_text}

-- 12, and then 7: there is room for 4,096 values
abbrev pub form_refusal : List ℕ → Tested
form_refusal text =
    or_else (limit_refusal text)
    (refuse (not (is_text text)) BadHeader
    (refuse (ltb most (length (values_in text))) TooMany
    accept))
