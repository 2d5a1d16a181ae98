-- The payload is there and the block has room.
use Rattle.std.proofs.Common.{refl, replicate}
use Rattle.lists.proofs.BlockCalls.{own_is}
use Rattle.lists.proofs.framing.own_block.Goals as goal

pub returns-clause-front : goal.returns-clause-front
returns-clause-front c =
    let a = c.args in
    let told = rw c.count.ensures.value at c.count.ensures.told in
    (own_is a.lanes told a.mode a.payload.now (replicate 256 0) a.width (rw c.bits.ensures.value at c.bits.ensures.bounds) c.requires refl
    (rw (c.count.ensures.value, c.bits.ensures.value) at c.decompress.ensures.decompressed_after)).1
