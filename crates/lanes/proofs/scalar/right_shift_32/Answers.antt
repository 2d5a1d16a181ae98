-- A shift by 32 or more leaves nothing of 32 bits.
use Rattle.std.proofs.Common.{arith}
use Rattle.lanes.proofs.Shifts.{shr_is}
use Rattle.lanes.proofs.scalar.right_shift_32.Goals as goal

pub returns : goal.returns
returns c = grind (arith, shr_is)
