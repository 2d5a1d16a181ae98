-- 32 values a lane, of 8 lanes at most.
use Rattle.std.proofs.Common.{arith}
use Rattle.layout.proofs.LaneCounts.{lanes_of}
use Rattle.lanes.proofs.Lanes.block_size.Goals as goal

pub overflow_mul-result : goal.overflow_mul-result
overflow_mul-result c = omega (arith, lanes_of _ c.self.invariant)

pub returns-clause-bounds : goal.returns-clause-bounds
returns-clause-bounds c = let g = lanes_of _ c.self.invariant in (omega (arith, g), omega (arith, g))
