-- A row more of values becomes a row of entries, and `pack_row` keeps `Packing`.
use Rattle.std.proofs.Common.{◌*◌, ◌+◌, arith}
use Rattle.layout.specs.Layout.{at}
use Rattle.layout.proofs.Products.{below_mul}
use Rattle.layout.proofs.Widths.{of_fits}
use Rattle.modes.specs.Entries.{entries}
use Rattle.modes.proofs.Steps.{entries_row, last_start, last_next}
use Rattle.blocks.specs.kernel.Places.{RowOf}
use Rattle.blocks.proofs.Packing.{pack_start, pack_end}
use Rattle.blocks.proofs.block.Block.pack.Goals as goal

pub loop-row-init : goal.loop-row-init
loop-row-init c =
    let b = c.self.inside in
    let few = rw c.count-used.ensures.value at c.count-used.ensures.bounds in
    (last_start b.mode (at b.values.now) _ few.0 few.1 c.set1-previous.ensures c.initial_value.ensures, pack_start _ _ _ _ few.1 c.set1-held.ensures)

pub pack_row-rest-requires-clause-narrow : goal.pack_row-rest-requires-clause-narrow
pack_row-rest-requires-clause-narrow c = λ l h.
    let b = c.self.inside in
    let o = c.loop-row in
    let few = rw c.count-used.ensures.value at c.count-used.ensures.bounds in
    let loaded : RowOf b.lanes (at b.values.now) o.row c.row-current.result = rw (c.count-used.ensures.value, ← c.self.view_is) at c.row-current.ensures in
    let entering : RowOf b.lanes (entries b.mode (at b.values.now)) o.row c.transform-entries.result =
    entries_row b.mode (at b.values.now) c.row-current.result c.transform-entries.result (o.row * b.lanes) b.lanes _ few.1 loaded o.invariant.0
    (rw c.count-used.ensures.value at c.transform-entries.ensures) in
    let narrow = rw (← c.self.view_is) at c.requires.narrow in
    rw (entering l h) (of_fits _ _ _ narrow (o.row * b.lanes + l) (omega (arith, below_mul b.lanes c.loop-row-test.true)))

pub loop-row-preserved : goal.loop-row-preserved
loop-row-preserved c =
    let b = c.self.inside in
    let o = c.loop-row in
    let few = rw c.count-used.ensures.value at c.count-used.ensures.bounds in
    let loaded : RowOf b.lanes (at b.values.now) o.row c.row-current.result = rw (c.count-used.ensures.value, ← c.self.view_is) at c.row-current.ensures in
    let entering : RowOf b.lanes (entries b.mode (at b.values.now)) o.row c.transform-entries.result =
    entries_row b.mode (at b.values.now) c.row-current.result c.transform-entries.result (o.row * b.lanes) b.lanes _ few.1 loaded o.invariant.0
    (rw c.count-used.ensures.value at c.transform-entries.ensures) in
    (last_next b.mode (at b.values.now) c.row-current.result o.row b.lanes few.0 loaded, c.pack_row-rest.ensures _ _ entering o.invariant.1)

pub returns : goal.returns
returns c =
    let few = rw c.count-used.ensures.value at c.count-used.ensures.bounds in
    rw (← c.self.view_is) (pack_end c.loop-row.invariant.1 (omega arith) few.0 (rw (← c.self.view_is) at c.requires.room))
