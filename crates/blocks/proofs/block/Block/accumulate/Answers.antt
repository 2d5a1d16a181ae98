-- A row more of entries is or-ed on top.
use Rattle.std.proofs.Common.{◌+◌, ◌*◌, ◌∙◌, arith}
use Rattle.layout.specs.Layout.{at}
use Rattle.lanes.proofs.Rows.{lane_of}
use Rattle.layout.proofs.Joined.{or_none, or_more}
use Rattle.modes.specs.Entries.{entries}
use Rattle.modes.proofs.Steps.{entries_row, last_start, last_next}
use Rattle.blocks.specs.kernel.Places.{RowOf}
use Rattle.blocks.proofs.block.Block.accumulate.Goals as goal

pub loop-row-init : goal.loop-row-init
loop-row-init c =
    let b = c.self.inside in
    let few = rw c.count-used.ensures.value at c.count-used.ensures.bounds in (
      last_start b.mode (at b.values.now) _ few.0 few.1 c.set1-previous.ensures c.initial_value.ensures,
      λ l h. lane_of c.set1-accumulator.ensures l (omega arith) ∙ or_none _,
    )

pub loop-row-preserved : goal.loop-row-preserved
loop-row-preserved c =
    let b = c.self.inside in
    let o = c.loop-row in
    let x = c.row-current in
    let few = rw c.count-used.ensures.value at c.count-used.ensures.bounds in
    let is : RowOf b.lanes (at b.values.now) o.row x.result = rw (c.count-used.ensures.value, ← c.self.view_is) at x.ensures in (
      last_next b.mode (at b.values.now) x.result o.row b.lanes few.0 is,
      λ l h. lane_of c.op_or-joined.ensures l (omega arith)
          ∙ or_more (λ i. entries b.mode (at b.values.now) (i * b.lanes + l)) o.row (o.invariant.1 l h)
          (entries_row b.mode (at b.values.now) x.result c.transform.result (o.row * b.lanes) b.lanes _ few.1 is o.invariant.0 (rw c.count-used.ensures.value at c.transform.ensures) l h),
    )
