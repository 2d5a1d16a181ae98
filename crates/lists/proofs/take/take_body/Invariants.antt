-- What is left to take is what there was to take, but for what was taken.
use Rattle.bodies.specs.Body.{block_count}
use Rattle.lists.proofs.Takes.{Taking}
use Rattle.lists.proofs.take.take_body.Given as goal

abbrev pub invariant-loop : goal.invariant-loop
invariant-loop l = Taking l.lanes l.fn.mode l.fn.count l.body (block_count l.lanes l.count) l.stop l.counter
