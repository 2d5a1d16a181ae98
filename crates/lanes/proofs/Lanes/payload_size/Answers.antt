-- Four bytes a word, of 8 lanes and 32 words a lane at most.
use Rattle.std.proofs.Common.{◌*◌, ◌≤◌, arith}
use Rattle.std.proofs.Math.Nat.{mul-le-mul_left, mul-le-mul_right}
use Rattle.layout.proofs.LaneCounts.{lanes_of}
use Rattle.lanes.proofs.Lanes.payload_size.Goals as goal

most : (c : goal.After-bits) → 4 * c.self.inside.count * c.bits.result ≤ 1024
most c =
    let lanes : 4 * c.self.inside.count ≤ 32 = omega (arith, lanes_of _ c.self.invariant) in
    omega (arith, mul-le-mul_right c.bits.result lanes, mul-le-mul_left 32 c.bits.ensures.bounds)

pub overflow_mul-result : goal.overflow_mul-result
overflow_mul-result c = omega (arith, lanes_of _ c.self.invariant)

pub overflow_mul-result-2 : goal.overflow_mul-result-2
overflow_mul-result-2 c = omega (arith, most c)

pub returns-clause-bounds : goal.returns-clause-bounds
returns-clause-bounds c = omega (arith, most c)
