-- The loop's invariant: each lane of the accumulator is the entries of the rows passed, or-ed together; `previous` is the row before.
use Rattle.std.proofs.Common.{◌≡◌, ℕ, ◌+◌, ◌*◌, ◌<◌}
use Rattle.layout.specs.Layout.{at}
use Rattle.layout.specs.Width.{or_all}
use Rattle.lanes.specs.Rows.{last_lane}
use Rattle.lanes.specs.Sums.{before}
use Rattle.modes.specs.Entries.{first_of, entries}
use Rattle.blocks.proofs.block.Block.accumulate.Given as goal

abbrev pub invariant-loop-row : goal.invariant-loop-row
invariant-loop-row l =
    (last_lane l.self-inside.lanes l.previous ≡ before (first_of l.self-inside.mode) (at l.self-inside.values.now) (l.row * l.self-inside.lanes))
    × ((k : ℕ) → k < l.self-inside.lanes → at l.accumulator k ≡ or_all (λ i. entries l.self-inside.mode (at l.self-inside.values.now) (i * l.self-inside.lanes + k)) l.row)
