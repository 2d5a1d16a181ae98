-- A refusal is passed on with nothing written; else the tested body is written out.
use Rattle.std.proofs.Common.{◌≡◌, refl, sym, ◌∙◌, ap, length}
use Rattle.std.proofs.lemmas.Result.{err_from_is_err_and}
use Rattle.answers.proofs.Answers.{refuses, passes, answered, overwritten}
use Rattle.answers.specs.Refusals.{accepted}
use Rattle.bodies.specs.Body.{block_count}
use Rattle.bodies.specs.Reading.{list_of}
use Rattle.lists.specs.Calls.{read_refusal, read_answer, read_output}
use Rattle.lists.proofs.Accepts.{read_exactly}
use Rattle.lists.proofs.Demand.{demand_reads}
use Rattle.lists.proofs.Fetches.{frames_good}
use Rattle.lists.proofs.read.Goals as goal

pub returns-in_err-lanes : goal.returns-in_err-lanes
returns-in_err-lanes c =
    let a = c.args in
    let e = err_from_is_err_and c.from_residual.result c.from_residual.ensures.1 in
    let k = refuses (read_refusal a.lanes a.mode a.count a.body.now (length a.values.now)) a.lanes (sym c.check_body.ensures ∙ c.in_err-lanes.was) in
    let p : c.from_residual.result ≡ read_answer a.lanes a.mode a.count a.body.now (length a.values.now) = rw (e.1, e.2, k) refl in
    let q : a.values.now ≡ read_output a.lanes a.mode a.count a.body.now a.values.now = rw k refl in
    record { value = p; values_after = q; demand_reads = demand_reads a.lanes a.mode a.count a.body.now a.values.now (λ i. (c.type_inv.body i).fits) p q }

pub fetch_body-requires : goal.fetch_body-requires
fetch_body-requires c =
    let a = c.args in
    let k = passes (read_refusal a.lanes a.mode a.count a.body.now (length a.values.now)) a.lanes (sym c.check_body.ensures ∙ c.in_ok-lanes.was) in
    let p = (read_exactly a.lanes a.mode a.count a.body.now (length a.values.now)).0 (ap accepted k.0) in
    rw k.1 (p.enough, frames_good (block_count a.lanes a.count) _ _ _ a.body.now p.body)

pub returns : goal.returns
returns c =
    let a = c.args in
    let k = passes (read_refusal a.lanes a.mode a.count a.body.now (length a.values.now)) a.lanes (sym c.check_body.ensures ∙ c.in_ok-lanes.was) in
    let yes = ap accepted k.0 in
    let p = sym (answered (read_refusal a.lanes a.mode a.count a.body.now (length a.values.now)) a.count yes) in
    let q = (rw k.1 at c.fetch_body.ensures) ∙ sym (overwritten (read_refusal a.lanes a.mode a.count a.body.now (length a.values.now)) (list_of a.lanes a.mode a.count a.body.now) a.values.now yes) in
    record { value = p; values_after = q; demand_reads = demand_reads a.lanes a.mode a.count a.body.now a.values.now (λ i. (c.type_inv.body i).fits) p q }
