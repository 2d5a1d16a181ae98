-- A shift by 32 or more leaves nothing of 32 bits.
use Rattle.std.proofs.Common.{arith}
use Rattle.lanes.proofs.Shifts.{shl_is}
use Rattle.lanes.proofs.scalar.left_shift_32.Goals as goal

pub returns : goal.returns
returns c = grind (arith, shl_is)
