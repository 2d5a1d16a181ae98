-- Where the body's stop is the definition's, it is where reading stops.
use Rattle.std.proofs.Common.{◌≡◌, ◌∙◌}
use borrow.Author.Tests.{le-ltb}
use Rattle.lists.specs.Parts.{check_stop}
use Rattle.lists.proofs.Accepts.{lanes_taken}
use Rattle.lists.proofs.Stops.{where_it_stops}
use Rattle.lists.proofs.check.Goals as goal

pub returns-clause-where_it_stops : goal.returns-clause-where_it_stops
returns-clause-where_it_stops c =
    let a = c.args in
    let l = lanes_taken a.lanes c.new.ensures c.in-Ok.is in
    let p : c.take_body.result ≡ check_stop a.lanes a.mode a.count a.body.now = c.take_body.ensures ∙ rw (l.1, l.0, le-ltb 4096 _ c.if-count-gt-MOST.false, c.starting.ensures) in
    where_it_stops a.lanes a.mode a.count a.body.now (λ i. (c.type_inv.body i).fits) p
