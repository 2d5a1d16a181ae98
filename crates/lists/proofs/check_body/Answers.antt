-- The tests of the body are those of its stop.
use Rattle.std.proofs.Common.{◌≡◌, refl, sym, ◌∙◌, ap}
use Rattle.std.proofs.lemmas.Result.{err_from_is_err_and}
use Rattle.order.specs.Order.{starting}
use Rattle.bodies.specs.declared.Stop.{Stop}
use Rattle.bodies.specs.Body.{block_count}
use Rattle.bodies.specs.Reading.{body_refusal}
use Rattle.bodies.proofs.Stops.{stop_refusal}
use Rattle.lists.proofs.Accepts.{lanes_taken, read_stops}
use Rattle.lists.proofs.check_body.Goals as goal

pub returns-in_err-take_body : goal.returns-in_err-take_body
returns-in_err-take_body c =
    let a = c.args in
    let l = lanes_taken a.lanes c.new.ensures c.in_ok-few.was in
    let e = err_from_is_err_and c.from_residual-in_err-take_body.result c.from_residual-in_err-take_body.ensures.1 in
    let o : c.take_body.result.outcome ≡ body_refusal a.lanes (starting a.mode) a.count a.body.now =
    ap (λ (s : Stop). s.outcome) (rw (l.1, c.starting.ensures) at c.take_body.ensures) ∙ stop_refusal (block_count a.lanes a.count) a.lanes (starting a.mode) a.count a.body.now in
    rw (e.1, e.2, read_stops a.lanes a.mode a.count a.body.now a.room l.0 c.if-count-gt-MOST.false c.if-room-count.false (sym o ∙ c.in_err-take_body.was)) refl

pub returns : goal.returns
returns c =
    let a = c.args in
    let l = lanes_taken a.lanes c.new.ensures c.in_ok-few.was in
    let o : c.take_body.result.outcome ≡ body_refusal a.lanes (starting a.mode) a.count a.body.now =
    ap (λ (s : Stop). s.outcome) (rw (l.1, c.starting.ensures) at c.take_body.ensures) ∙ stop_refusal (block_count a.lanes a.count) a.lanes (starting a.mode) a.count a.body.now in
    rw (read_stops a.lanes a.mode a.count a.body.now a.room l.0 c.if-count-gt-MOST.false c.if-room-count.false (sym o ∙ c.in_ok-take_body.was), l.1) refl
