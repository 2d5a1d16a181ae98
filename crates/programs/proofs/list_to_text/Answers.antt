-- The lines of the values that were read.
use Rattle.std.proofs.Common.{sym, ◌∙◌}
use Rattle.std.proofs.Math.ListN.{replicate}
use Rattle.programs.proofs.Outcomes.{list_out}
use Rattle.programs.proofs.list_to_text.Goals as goal

pub returns-in-Ok-clause-value : goal.returns-in-Ok-clause-value
returns-in-Ok-clause-value c =
    let l = c.list_of_file.ensures in
    rw (← list_out c.args.file.now (replicate 4096 0) (sym c.in-Ok.is ∙ l.value) l.values_after) c.hand_out_values.ensures.value

pub returns-in-Ok-clause-out_after : goal.returns-in-Ok-clause-out_after
returns-in-Ok-clause-out_after c =
    let l = c.list_of_file.ensures in
    rw (← list_out c.args.file.now (replicate 4096 0) (sym c.in-Ok.is ∙ l.value) l.values_after) c.hand_out_values.ensures.out_after
