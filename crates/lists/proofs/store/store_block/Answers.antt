-- The width byte, and behind it the payload of the filled entries.
use Rattle.std.proofs.Common.{refl, length-set, arith}
use Rattle.lists.proofs.Stores.{own_of, some_room, narrow_found, pack_found, packed_found, store_found}
use Rattle.lists.proofs.store.store_block.Goals as goal

pub overflow_cast-body : goal.overflow_cast-body
overflow_cast-body c =
    let o = own_of c.args.lanes c.args.mode c.args.values.now _ (rw c.count-count.ensures.value at c.count-count.ensures.told) (λ k. (c.type_inv.values k).fits) c.requires.0 c.filled_entries-block.ensures in
    omega (arith, narrow_found o (rw (c.count-count.ensures.value, c.block_size.ensures.value) at c.num_bits.ensures) c.unwrap-width.ensures)

pub bounds-body-0 : goal.bounds-body-0
bounds-body-0 c = omega (arith, some_room _ _ c.requires.1)

pub slice_bounds-compress-count : goal.slice_bounds-compress-count
slice_bounds-compress-count c = simp length-set (omega (arith, some_room _ _ c.requires.1))

pub slice_bounds-compress-start : goal.slice_bounds-compress-start
slice_bounds-compress-start c = simp length-set (omega (arith, some_room _ _ c.requires.1))

pub unwrap-requires : goal.unwrap-requires
unwrap-requires c =
    let o = own_of c.args.lanes c.args.mode c.args.values.now _ (rw c.count-count.ensures.value at c.count-count.ensures.told) (λ k. (c.type_inv.values k).fits) c.requires.0 c.filled_entries-block.ensures in
    rw (pack_found o (rw (c.count-count.ensures.value, c.block_size.ensures.value) at c.num_bits.ensures) c.unwrap-width.ensures c.args.body.now c.requires.1
    (rw (c.count-count.ensures.value, c.block_size.ensures.value) at c.compress.ensures.value)) refl

pub returns : goal.returns
returns c =
    let o = own_of c.args.lanes c.args.mode c.args.values.now _ (rw c.count-count.ensures.value at c.count-count.ensures.told) (λ k. (c.type_inv.values k).fits) c.requires.0 c.filled_entries-block.ensures in
    let n = (rw (c.count-count.ensures.value, c.block_size.ensures.value) at c.num_bits.ensures) in
    let e = rw (c.count-count.ensures.value, c.block_size.ensures.value) at c.compress.ensures in
    record {
      value = packed_found o n c.unwrap-width.ensures c.args.body.now c.requires.1 e.value c.unwrap.ensures;
      body_after = store_found o n c.unwrap-width.ensures c.args.body.now c.requires.1 _ e.compressed_after;
    }
