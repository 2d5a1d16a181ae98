-- What was decoded stands within the bytes.
use Rattle.std.proofs.Common.{◌≡◌, ◌≤◌, length}
use Rattle.programs_check.proofs.pieces.repeat.Given as goal

abbrev pub invariant-loop : goal.invariant-loop
invariant-loop l = (l.size ≤ length l.bytes) × (length l.bytes ≡ length l.fn.bytes)
