-- The block is unpacked into one of the reader's own, and its first values are copied.
use Rattle.std.proofs.Common.{sym, ◌∙◌, arith}
use Rattle.std.proofs.Math.Seq.{length-take-le}
use Rattle.answers.proofs.Answers.{passes}
use Rattle.bodies.specs.Reading.{width_at, frame_refusal}
use Rattle.lists.proofs.BlockCalls.{own_values}
use Rattle.lists.proofs.Fetches.{copied}
use Rattle.lists.proofs.fetch.fetch_last.Goals as goal

pub slice_bounds-block-end : goal.slice_bounds-block-end
slice_bounds-block-end c = omega (arith, c.own_block-block.ensures.room, c.requires.1)

pub slice_bounds-copy_from_slice-end-3 : goal.slice_bounds-copy_from_slice-end-3
slice_bounds-copy_from_slice-end-3 c = sym (length-take-le _ c.own_block-block.result (omega (arith, c.own_block-block.ensures.room, c.requires.1)))

pub copy_from_slice-requires : goal.copy_from_slice-requires
copy_from_slice-requires c =
    length-take-le _ c.args.values.now c.requires.2 ∙ sym (length-take-le _ c.own_block-block.result (omega (arith, c.own_block-block.ensures.room, c.requires.1)))

pub returns : goal.returns
returns c =
    let a = c.args in
    let b = c.own_block-block in
    let f = passes (frame_refusal a.lanes a.bytes.now) (width_at a.bytes.now) (sym c.framed.ensures.value ∙ c.unwrap-width.ensures) in
    copied a.lanes a.mode a.bytes.now a.count b.result _ a.values.now c.requires.1 (own_values a.lanes a.mode a.bytes.now b.result f.1 b.ensures.front) c.copy_from_slice.ensures.after
