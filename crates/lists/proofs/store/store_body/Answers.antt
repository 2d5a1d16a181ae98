-- The next block has one value at least, and it comes to stand behind the blocks before it.
use Rattle.std.proofs.Common.{refl, ◌∙◌, arith}
use Rattle.std.specs.Slice.Iter.{chunks_rest}
use Rattle.layout.proofs.LaneCounts.{lanes_of}
use Rattle.lists.proofs.Stores.{first_chunk, none_left, storing_none, storing_more, storing_all, block_room}
use Rattle.lists.proofs.store.store_body.Goals as goal

pub loop-part-init : goal.loop-part-init
loop-part-init c =
    let b = c.block_size.ensures in
    rw (c.into_iter-part-iterator.ensures.into_iter_gives, c.chunks-part-items.ensures.size, c.chunks-part-items.ensures.rest, b.value)
    (rw b.value at b.bounds.0, tt, refl, storing_none _ _ _ _)

pub store_block-done-requires : goal.store_block-done-requires
store_block-done-requires c =
    let b = c.block_size.ensures in
    let s = c.in-Some.ensures.steps in
    let size = c.loop-part.invariant.2 in
    let x = first_chunk _ (chunks_rest c.loop-part.part-iterator) c.in-Some.part.now (chunks_rest c.next.new.self) s.1.0 (rw size at s.1.1) in
    (omega (arith, rw size at s.1.1), rw x.0 (block_room c.loop-part.invariant.3 (lanes_of _ b.told).0 c.requires s.1.2))

pub loop-part-preserved : goal.loop-part-preserved
loop-part-preserved c =
    let b = c.block_size.ensures in
    let s = c.in-Some.ensures.steps in
    let size = c.loop-part.invariant.2 in
    let x = first_chunk _ (chunks_rest c.loop-part.part-iterator) c.in-Some.part.now (chunks_rest c.next.new.self) s.1.0 (rw size at s.1.1) in
    let e = rw x.0 at c.store_block-done.ensures in (
      rw s.0 c.loop-part.invariant.0,
      tt,
      s.0 ∙ size,
      rw (c.past-running.ensures, x.0, x.1, e.value) (storing_more c.loop-part.invariant.3 (lanes_of _ b.told).0 c.requires s.1.2 _ e.body_after),
    )

pub returns : goal.returns
returns c =
    let b = c.block_size.ensures in
    let none = none_left (chunks_rest c.loop-part.part-iterator) c.in-None.ensures.steps.1.0 in
    let e = storing_all c.loop-part.invariant.3 (lanes_of _ b.told).0 c.requires none in
    record { value = e.0; body_after = e.1 }
