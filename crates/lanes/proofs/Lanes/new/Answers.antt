-- 1, 4, 8 and nothing else.
use Rattle.std.proofs.Common.{arith}
use Rattle.layout.specs.Layout.{is_lanes}
use Rattle.lanes.proofs.Lanes.new.Goals as goal

pub invariant_of-result : goal.invariant_of-result
unfolding is_lanes
invariant_of-result c = grind arith

pub returns-in-1 : goal.returns-in-1
unfolding is_lanes
returns-in-1 c = grind arith

pub returns-in_default : goal.returns-in_default
unfolding is_lanes
returns-in_default c = grind arith
