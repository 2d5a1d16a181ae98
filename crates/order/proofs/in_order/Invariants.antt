-- Past the first values all were in order.
use Rattle.std.proofs.Math.ListN.{take}
use Rattle.order.proofs.Going.{Going}
use Rattle.order.proofs.in_order.Given as goal

abbrev pub invariant-loop-v : goal.invariant-loop-v
invariant-loop-v l = Going l.initial.running (take l.v-index l.values) l.running
