-- A line is passed, and then the lines behind it.
use Rattle.std.proofs.Common.{of_calls, Ok, refl, arith}
use Rattle.std.specs.Fn.{CalledAt}
use Rattle.std.proofs.lemmas.Fn.{called}
use Rattle.std.proofs.lemmas.Bool.Decides.{nat_tests}
use Rattle.tables.proofs.Going.{ran_more, ran_none}
use Rattle.tables.proofs.for_each_line_of.Goals as goal

pub loop-rest-preserved : goal.loop-rest-preserved
loop-rest-preserved g c =
    let line = c.before-in-loop-rest.result in
    let ran : CalledAt g.F.FnMut c.loop-rest.run line.now (Ok tt) c.run.new.self = record { shown = line; shows = refl; called = called g.F.FnMut c.run.ensures c.in_ok-run.was } in
    (search of_calls, λ last more. c.loop-rest.invariant.1 last (ran_more _ _ c.loop-rest.rest.now _ _ _ _ (grind (arith, nat_tests)) c.before-in-loop-rest.ensures c.behind-rest.ensures.result_value ran more))

pub returns : goal.returns
returns g c = (c.loop-rest.run, c.loop-rest.invariant.1 _ (ran_none _ _ c.loop-rest.rest.now (grind (arith, nat_tests))))
