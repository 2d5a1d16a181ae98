-- 1, 4 and 8 are above 0 and up to 8.
use Rattle.std.proofs.Common.{arith}
use Rattle.layout.proofs.LaneCounts.{lanes_of}
use Rattle.lanes.proofs.Lanes.count.Goals as goal

pub returns-clause-bounds : goal.returns-clause-bounds
returns-clause-bounds c = let g = lanes_of _ c.self.invariant in (omega (arith, g), omega (arith, g))
