-- The loop's invariant: `Packing` at row `row`, with `previous` the row of values before it.
use Rattle.std.proofs.Common.{◌≡◌, ◌*◌}
use Rattle.layout.specs.Layout.{at}
use Rattle.lanes.specs.Rows.{last_lane}
use Rattle.lanes.specs.Sums.{before}
use Rattle.modes.specs.Entries.{first_of, entries}
use Rattle.blocks.specs.kernel.Registers.{Packing}
use Rattle.blocks.proofs.block.Block.pack.Given as goal

abbrev pub invariant-loop-row : goal.invariant-loop-row
invariant-loop-row l =
    (last_lane l.self-inside.lanes l.previous ≡ before (first_of l.self-inside.mode) (at l.self-inside.values.now) (l.row * l.self-inside.lanes))
    × Packing l.self-inside.lanes l.width (entries l.self-inside.mode (at l.self-inside.values.now)) l.fn.out l.row l.held l.out
