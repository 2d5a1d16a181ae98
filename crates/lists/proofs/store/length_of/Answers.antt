-- The width is that of the filled entries, and the length follows from it.
use Rattle.std.proofs.Common.{refl}
use Rattle.lists.proofs.Stores.{own_of, size_found, length_found}
use Rattle.lists.proofs.store.length_of.Goals as goal

pub unwrap-requires : goal.unwrap-requires
unwrap-requires c =
    let o = own_of c.args.lanes c.args.mode c.args.values.now _ (rw c.count-count.ensures.value at c.count-count.ensures.told) (λ k. (c.type_inv.values k).fits) c.requires c.filled_entries-block.ensures in
    rw (size_found o (rw (c.count-count.ensures.value, c.block_size.ensures.value) at c.num_bits.ensures) c.unwrap-width.ensures (rw c.count-count.ensures.value at c.compressed_block_size.ensures)) refl

pub returns : goal.returns
returns c =
    let o = own_of c.args.lanes c.args.mode c.args.values.now _ (rw c.count-count.ensures.value at c.count-count.ensures.told) (λ k. (c.type_inv.values k).fits) c.requires c.filled_entries-block.ensures in
    length_found o (rw (c.count-count.ensures.value, c.block_size.ensures.value) at c.num_bits.ensures) c.unwrap-width.ensures (rw c.count-count.ensures.value at c.compressed_block_size.ensures) c.unwrap.ensures
