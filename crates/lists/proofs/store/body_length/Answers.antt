-- The next block has one value at least, and its length comes on top.
use Rattle.std.proofs.Common.{sym, ◌∙◌, ap, length, arith}
use Rattle.std.specs.Slice.Iter.{chunks_rest}
use Rattle.layout.proofs.LaneCounts.{lanes_of}
use Rattle.bodies.proofs.Sizes.{body_short}
use Rattle.lists.proofs.Stores.{first_chunk, none_left, block_within, stored_more, stored_all}
use Rattle.lists.proofs.store.body_length.Goals as goal

pub overflow_add-total : goal.overflow_add-total
overflow_add-total c =
    let a = c.args in
    let b = c.block_size.ensures in
    let s = c.in-Some.ensures.steps in
    let size = c.loop-part.invariant.2 in
    let x = first_chunk _ (chunks_rest c.loop-part.part-iterator) c.in-Some.part.now (chunks_rest c.next.new.self) s.1.0 (rw size at s.1.1) in
    omega (
      arith,
      rw x.0 at c.length_of-total.ensures,
      block_within c.loop-part.invariant.3 (lanes_of _ b.told).0 s.1.2,
      body_short a.lanes b.told a.mode a.values.now c.requires,
    )

pub loop-part-preserved : goal.loop-part-preserved
loop-part-preserved c =
    let b = c.block_size.ensures in
    let s = c.in-Some.ensures.steps in
    let size = c.loop-part.invariant.2 in
    let x = first_chunk _ (chunks_rest c.loop-part.part-iterator) c.in-Some.part.now (chunks_rest c.next.new.self) s.1.0 (rw size at s.1.1) in (
      rw s.0 c.loop-part.invariant.0,
      tt,
      s.0 ∙ size,
      rw (c.past-running.ensures, c.length_of-total.ensures, x.0, x.1) (stored_more c.loop-part.invariant.3 (lanes_of _ b.told).0 s.1.2),
    )

pub returns : goal.returns
returns c =
    let b = c.block_size.ensures in
    let none = none_left (chunks_rest c.loop-part.part-iterator) c.in-None.ensures.steps.1.0 in
    sym (ap length (stored_all c.loop-part.invariant.3 (lanes_of _ b.told).0 none) ∙ c.loop-part.invariant.3.far)
