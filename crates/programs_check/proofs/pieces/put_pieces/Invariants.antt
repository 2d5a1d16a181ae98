-- The pieces so far stand within the bytes.
use Rattle.std.proofs.Common.{◌≡◌, ◌≤◌, length}
use Rattle.programs_check.proofs.pieces.put_pieces.Given as goal

abbrev pub invariant-loop-piece : goal.invariant-loop-piece
invariant-loop-piece l = (l.size ≤ length l.bytes) × (length l.bytes ≡ length l.fn.bytes)
