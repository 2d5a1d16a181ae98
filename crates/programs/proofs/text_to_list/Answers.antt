-- The line of a refusal, 7 too, which is the values'.
use Rattle.std.proofs.Common.{sym, ◌∙◌}
use Rattle.programs.proofs.Outcomes.{text_refused}
use Rattle.programs.proofs.text_to_list.Goals as goal

pub returns-in-Err-clause-value : goal.returns-in-Err-clause-value
returns-in-Err-clause-value c = rw (← text_refused c.args.text.now _ (sym c.in-Err.is ∙ c.list_of_text.ensures.value)) c.refuse.ensures.value

pub returns-in-Err-clause-out_after : goal.returns-in-Err-clause-out_after
returns-in-Err-clause-out_after c = rw (← text_refused c.args.text.now _ (sym c.in-Err.is ∙ c.list_of_text.ensures.value)) c.refuse.ensures.out_after
