-- Each way out of a block is the definition's.
use Rattle.std.proofs.Common.{sym, ◌∙◌}
use Rattle.std.proofs.lemmas.Result.{err_from_is_err_and}
use Rattle.bodies.specs.Reading.{width_at, frame_refusal}
use Rattle.answers.proofs.Answers.{passes}
use Rattle.lists.proofs.BlockCalls.{own_plain}
use Rattle.lists.proofs.Takes.{no_frame, bad_entries, bad_order, good_block}
use Rattle.lists.proofs.take.past_block.Goals as goal

pub returns-in_err-width : goal.returns-in_err-width
returns-in_err-width c =
    let a = c.args in
    let p = err_from_is_err_and c.from_residual.result c.from_residual.ensures.1 in
    rw (p.1, p.2, no_frame a.lanes a.mode a.count a.bytes.now (sym c.framed.ensures.value ∙ c.in_err-width.was))

pub returns-in_err-check_entries : goal.returns-in_err-check_entries
returns-in_err-check_entries c =
    let a = c.args in
    let b = c.own_block-block in
    let f = passes (frame_refusal a.lanes a.bytes.now) (width_at a.bytes.now) (sym c.framed.ensures.value ∙ c.in_ok-width.was) in
    let told = rw (f.1, c.block_size.ensures.value) at (sym c.check_entries.ensures ∙ c.in_err-check_entries.was) in
    let p = err_from_is_err_and c.from_residual-in_err-check_entries.result c.from_residual-in_err-check_entries.ensures.1 in
    rw (p.1, p.2, bad_entries a.lanes a.mode a.count a.bytes.now c.requires f.0 b.result (own_plain a.lanes a.bytes.now b.result f.1 b.ensures.front) told)

pub returns-in_err-next : goal.returns-in_err-next
returns-in_err-next c =
    let a = c.args in
    let b = c.own_block-block in
    let f = passes (frame_refusal a.lanes a.bytes.now) (width_at a.bytes.now) (sym c.framed.ensures.value ∙ c.in_ok-width.was) in
    let told = rw (f.1, c.block_size.ensures.value) at (sym c.check_entries.ensures ∙ c.in_ok-check_entries.was) in
    let p = err_from_is_err_and c.from_residual-in_err-next.result c.from_residual-in_err-next.ensures.1 in
    rw (p.1, p.2, bad_order a.lanes a.mode a.count a.bytes.now c.requires f.0 b.result (own_plain a.lanes a.bytes.now b.result f.1 b.ensures.front) told (sym c.walk.ensures ∙ c.in_err-next.was))

pub returns : goal.returns
returns c =
    let a = c.args in
    let b = c.own_block-block in
    let f = passes (frame_refusal a.lanes a.bytes.now) (width_at a.bytes.now) (sym c.framed.ensures.value ∙ c.in_ok-width.was) in
    let told = rw (f.1, c.block_size.ensures.value) at (sym c.check_entries.ensures ∙ c.in_ok-check_entries.was) in
    let g = good_block a.lanes a.mode a.count a.bytes.now c.requires f.0 b.result (own_plain a.lanes a.bytes.now b.result f.1 b.ensures.front) told (sym c.walk.ensures ∙ c.in_ok-next.was) in
    rw (g.0, g.1, c.block_length.ensures, f.1)
