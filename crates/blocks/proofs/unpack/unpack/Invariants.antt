-- The loop's invariant: `held` is what is left before row `row`, the rows before it are stored, and `current` is the last of them.
use Rattle.std.proofs.Common.{◌≡◌, ◌*◌}
use Rattle.layout.specs.Layout.{byte_bits, payload_entry}
use Rattle.lanes.specs.Rows.{last_lane}
use Rattle.lanes.specs.Sums.{before}
use Rattle.modes.specs.Entries.{first_of, values}
use Rattle.blocks.specs.kernel.Registers.{HoldsBits, bits_left}
use Rattle.blocks.proofs.Unpacking.{Unpacking}
use Rattle.blocks.proofs.unpack.unpack.Given as goal

abbrev pub invariant-loop-row : goal.invariant-loop-row
invariant-loop-row l =
    (last_lane l.lanes l.current ≡ before (first_of l.mode) (values l.mode (payload_entry l.lanes l.width l.bytes)) (l.row * l.lanes))
    × HoldsBits l.lanes (byte_bits l.lanes l.bytes) (l.row * l.width) (bits_left l.width l.row) l.held
    × Unpacking l.lanes (values l.mode (payload_entry l.lanes l.width l.bytes)) l.fn.out l.row l.out
