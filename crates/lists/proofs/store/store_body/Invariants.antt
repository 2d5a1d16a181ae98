-- The blocks of the values that are past stand at the front of the body.
use Rattle.std.proofs.Common.{◌≡◌}
use Rattle.std.specs.Slice.Iter.{chunks_rest, chunks_size}
use Rattle.layout.specs.Layout.{block_size}
use Rattle.lists.proofs.Stores.{Storing}
use Rattle.lists.proofs.store.store_body.Given as goal

abbrev pub invariant-loop-part : goal.invariant-loop-part
invariant-loop-part l =
    (goal.iterator-loop-part).can_next l.part-iterator
    × (goal.iterator-loop-part).is_finite l.part-iterator
    × (chunks_size l.part-iterator ≡ block_size l.lanes)
    × Storing l.lanes l.fn.mode l.fn.values l.fn.body l.running (chunks_rest l.part-iterator) l.done l.body
