-- Past the first entries all their values were in order.
use Rattle.std.proofs.Math.ListN.{take}
use Rattle.order.specs.Order.{values_of}
use Rattle.order.proofs.Going.{Going}
use Rattle.order.proofs.walk.Given as goal

abbrev pub invariant-loop-e : goal.invariant-loop-e
invariant-loop-e l = Going l.fn.mode (values_of l.fn.mode (take l.e-index l.entries)) l.running
