-- Each block stands there and is in its place; the last, if it is not full, comes by way of the reader's own.
use Rattle.std.proofs.Common.{sym, ◌∙◌, ap, arith}
use Rattle.std.proofs.Math.Nat.{add-zero}
use Rattle.layout.specs.Layout.{at}
use Rattle.layout.proofs.LaneCounts.{lanes_of}
use Rattle.answers.proofs.Answers.{ok_is, passes}
use Rattle.answers.proofs.Parts.{part_length, part_at}
use Rattle.lists.proofs.Fetches.{out_length, next_framed, fetching_more, fetching_last, fetching_done}
use Rattle.lists.proofs.fetch.fetch_body.Goals as goal

pub unwrap-width-requires : goal.unwrap-width-requires
unwrap-width-requires c =
    let g = (lanes_of _ c.block_size-size.ensures.told).0 in
    rw c.framed.ensures.value (ok_is _ _ ∙ next_framed c.loop-done.invariant g c.requires.0 (omega (arith, g, c.loop-done-test.true, c.block_size-size.ensures.value)))

pub loop-done-preserved : goal.loop-done-preserved
loop-done-preserved c =
    let p = c.requires in
    let b = c.block_size-size.ensures in
    let g = (lanes_of _ b.told).0 in
    let f = passes _ _ (sym c.framed.ensures.value ∙ c.unwrap-width.ensures) in
    let is = f.1 ∙ part_at c.loop-done.place c.args.body.now 0 ∙ ap (at c.args.body.now) (add-zero c.loop-done.place) in
    rw b.value
    (fetching_more c.loop-done.invariant g p.0 (omega (arith, g, c.loop-done-test.true, b.value)) _ _ is c.block_length-place.ensures
    (rw b.value at c.loop-done-test.true) _ _ c.fetch_block-running.ensures.values_after c.fetch_block-running.ensures.value)

pub fetch_last-requires : goal.fetch_last-requires
fetch_last-requires c =
    let p = c.requires in
    let i = c.loop-done.invariant in
    let b = c.block_size-size.ensures in
    let g = (lanes_of _ b.told).0 in (
      next_framed i g p.0 c.if-done-count.true,
      omega (arith, c.loop-done-test.false, b.value),
      omega (arith, p.0, out_length i g p.0, part_length c.loop-done.done c.loop-done.values),
    )

pub returns-then-done-count : goal.returns-then-done-count
returns-then-done-count c =
    let b = c.block_size-size.ensures in
    fetching_last c.loop-done.invariant (lanes_of _ b.told).0 c.requires.0 c.if-done-count.true (omega (arith, c.loop-done-test.false, b.value)) _ c.fetch_last.ensures

pub returns-else-done-count : goal.returns-else-done-count
returns-else-done-count c = fetching_done c.loop-done.invariant (lanes_of _ c.block_size-size.ensures.told).0 c.requires.0 c.if-done-count.false
