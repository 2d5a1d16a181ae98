-- Where the values are refused nothing was written, and their line goes out.
use Rattle.std.proofs.Common.{sym, ◌∙◌, length}
use denote.Enum.Bare.{same_false}
use Rattle.answers.specs.contracts.Refusal.{the_type}
use Rattle.lists.proofs.Accepts.{writing_parts}
use Rattle.files.specs.Calls.{file_for}
use Rattle.programs.proofs.Outcomes.{values_refused}
use Rattle.programs.proofs.hand_out_file.Goals as goal

pub returns-in-Err-2-clause-out_after : goal.returns-in-Err-2-clause-out_after
returns-in-Err-2-clause-out_after c =
    let a = c.args in
    let w = c.write.ensures in
    let e = values_refused a.said.lanes a.said.mode a.values.now (length a.out.now) (sym c.in-Err.is ∙ w.value) (same_false the_type _ _ (sym c.eq.ensures ∙ c.if-eq.false)) in
    c.refuse.ensures.out_after
    ∙ rw (w.file_after, writing_parts a.said.lanes a.said.mode a.values.now (length (file_for a.said.lanes a.said.mode a.values.now)) (length a.out.now), e)
