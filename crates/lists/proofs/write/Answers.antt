-- What the values are refused for is passed on, and then the room is tested; else the body is written.
use Rattle.std.proofs.Common.{◌≡◌, Ok, Err, refl, sym, ◌∙◌, ap, length}
use Rattle.std.proofs.lemmas.Result.{err_from_is_err_and}
use borrow.Author.Tests.{leb-true, leb-false}
use Rattle.answers.specs.declared.Refusal.TheVariants.{NoRoom}
use Rattle.answers.proofs.Answers.{refuses, answered, overwritten}
use Rattle.bodies.specs.Body.{body_of}
use Rattle.lists.specs.Calls.{measure_refusal, write_refusal, write_answer, write_output}
use Rattle.lists.proofs.Accepts.{list_checked, write_stops, write_no_room, write_exactly}
use Rattle.lists.proofs.Demand.{demand_writes}
use Rattle.lists.proofs.write.Goals as goal

pub returns-in_err-lanes : goal.returns-in_err-lanes
returns-in_err-lanes c =
    let a = c.args in
    let e = err_from_is_err_and c.from_residual.result c.from_residual.ensures.1 in
    let k = write_stops a.lanes a.mode a.values.now (length a.body.now) (refuses (measure_refusal a.lanes a.mode a.values.now) a.lanes (sym c.check_list.ensures.value ∙ c.in_err-lanes.was)) in
    let p : c.from_residual.result ≡ write_answer a.lanes a.mode a.values.now (length a.body.now) = rw (e.1, e.2, k) refl in
    let q : a.body.now ≡ write_output a.lanes a.mode a.values.now a.body.now = rw k refl in
    record { value = p; body_after = q; demand_writes = demand_writes a.lanes a.mode a.values.now a.body.now p q }

pub has_room-requires : goal.has_room-requires
has_room-requires c =
    let l = list_checked c.args.lanes c.args.mode c.args.values.now c.check_list.ensures.value c.in_ok-lanes.was in
    (rw l.1 l.0.lanes, l.0.few)

pub returns-then-not-has_room : goal.returns-then-not-has_room
returns-then-not-has_room c =
    let a = c.args in
    let l = list_checked a.lanes a.mode a.values.now c.check_list.ensures.value c.in_ok-lanes.was in
    let k = write_no_room a.lanes a.mode a.values.now (length a.body.now) l.0 (leb-false _ (length a.body.now) (rw l.1 at (sym c.has_room.ensures ∙ c.if-not-has_room.true))) in
    let p : Err NoRoom ≡ write_answer a.lanes a.mode a.values.now (length a.body.now) = rw k refl in
    let q : a.body.now ≡ write_output a.lanes a.mode a.values.now a.body.now = rw k refl in
    record { value = p; body_after = q; demand_writes = demand_writes a.lanes a.mode a.values.now a.body.now p q }

pub store_body-requires : goal.store_body-requires
store_body-requires c = leb-true _ _ (sym c.has_room.ensures ∙ c.if-not-has_room.false)

pub returns : goal.returns
returns c =
    let a = c.args in
    let l = list_checked a.lanes a.mode a.values.now c.check_list.ensures.value c.in_ok-lanes.was in
    let enough = leb-true (length (body_of a.lanes a.mode a.values.now)) (length a.body.now) (rw l.1 at (sym c.has_room.ensures ∙ c.if-not-has_room.false)) in
    let yes = (write_exactly a.lanes a.mode a.values.now (length a.body.now)).1 (record { list = l.0; enough = enough }) in
    let s = rw l.1 at c.store_body.ensures in
    let p = ap Ok s.value ∙ sym (answered (write_refusal a.lanes a.mode a.values.now (length a.body.now)) (length (body_of a.lanes a.mode a.values.now)) yes) in
    let q = s.body_after ∙ sym (overwritten (write_refusal a.lanes a.mode a.values.now (length a.body.now)) (body_of a.lanes a.mode a.values.now) a.body.now yes) in
    record { value = p; body_after = q; demand_writes = demand_writes a.lanes a.mode a.values.now a.body.now p q }
