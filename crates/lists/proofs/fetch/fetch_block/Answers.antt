-- The whole block is unpacked in place, and its last value is the next block's previous.
use Rattle.std.proofs.Common.{◌≡◌, sym, ◌∙◌}
use Rattle.answers.specs.Answers.{over}
use Rattle.layout.specs.Layout.{block_size}
use Rattle.answers.proofs.Answers.{passes}
use Rattle.answers.proofs.Parts.{part_is}
use Rattle.bodies.specs.Reading.{width_at, values_at, frame_refusal}
use Rattle.bodies.proofs.Tests.{framed}
use Rattle.lists.proofs.BlockCalls.{block_over}
use Rattle.lists.proofs.Fetches.{last_value}
use Rattle.lists.proofs.fetch.fetch_block.Goals as goal

left : (c : goal.After-after) → c.decompress.new.decompressed ≡ over (values_at c.args.lanes c.args.mode (block_size c.args.lanes) c.args.bytes.now) c.args.values.now
left c =
    let a = c.args in
    let f = passes (frame_refusal a.lanes a.bytes.now) (width_at a.bytes.now) (sym c.framed.ensures.value ∙ c.unwrap-width.ensures) in
    (rw (c.count.ensures.value, c.bits.ensures.value, f.1, part_is 1 a.bytes.now) at c.decompress.ensures.decompressed_after)
    ∙ block_over a.lanes (rw c.count.ensures.value at c.count.ensures.told) a.mode a.bytes.now a.values.now (framed a.lanes a.bytes.now c.requires.0) c.requires.1

pub returns-clause-values_after : goal.returns-clause-values_after
returns-clause-values_after c = left c

pub returns-clause-value : goal.returns-clause-value
returns-clause-value c =
    let a = c.args in
    c.after.ensures ∙ rw c.block_size.ensures.value
    (last_value a.lanes a.mode a.bytes.now (rw c.count.ensures.value at c.count.ensures.bounds.0) c.decompress.new.decompressed a.values.now (left c))
