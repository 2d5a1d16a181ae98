-- A row more of entries becomes a row of values, which is stored at its place.
use Rattle.std.proofs.Common.{◌*◌, arith}
use Rattle.layout.specs.Layout.{payload_entry}
use Rattle.modes.specs.Entries.{values}
use Rattle.modes.proofs.Steps.{values_row, last_start, last_next}
use Rattle.blocks.specs.Calls.{unpacked}
use Rattle.blocks.specs.kernel.Places.{RowOf}
use Rattle.blocks.proofs.Unpacking.{held_none, unpack_start, unpack_more, unpack_end}
use Rattle.blocks.proofs.unpack.unpack.Goals as goal

pub loop-row-init : goal.loop-row-init
loop-row-init c =
    let a = c.args in
    let few = rw c.count-used.ensures.value at c.count-used.ensures.bounds in (
      last_start a.mode (values a.mode (payload_entry a.lanes a.width a.bytes.now)) _ few.0 few.1 c.set1-current.ensures c.initial_value.ensures,
      held_none _ a.width _ few.1 c.set1-held.ensures,
      unpack_start _ _ _,
    )

pub loop-row-preserved : goal.loop-row-preserved
loop-row-preserved c =
    let a = c.args in
    let o = c.loop-row in
    let next = c.unpack_row in
    let used = c.count-used.ensures.value in
    let few = rw used at c.count-used.ensures.bounds in
    let is : RowOf a.lanes (values a.mode (payload_entry a.lanes a.width a.bytes.now)) o.row c.process-values.result =
    values_row a.mode (payload_entry a.lanes a.width a.bytes.now) next.result.0 c.process-values.result (o.row * a.lanes) a.lanes _
    few.1 next.ensures.row_of o.invariant.0 (rw used at c.process-values.ensures) in (
      last_next a.mode (values a.mode (payload_entry a.lanes a.width a.bytes.now)) c.process-values.result o.row a.lanes few.0 is,
      next.ensures.rest_holds,
      unpack_more o.invariant.2 is (rw used at c.store_row.ensures),
    )

pub returns : goal.returns
unfolding unpacked
returns c = unpack_end c.loop-row.invariant.2 (omega arith) c.requires.1
