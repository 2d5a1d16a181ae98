-- A block that is past its tests is taken; one that is not is none.
use Rattle.std.proofs.Common.{◌∙◌}
use Rattle.lists.proofs.Takes.{block_takes, block_refuses}
use Rattle.lists.proofs.take.take_block.Goals as goal

pub returns-in-Ok : goal.returns-in-Ok
returns-in-Ok c =
    let a = c.args in
    block_takes a.lanes a.mode a.left a.bytes.now (rw c.block_size.ensures.value at c.min-count.ensures) c.past_block.ensures c.in-Ok.is

pub returns-in-Err : goal.returns-in-Err
returns-in-Err c =
    let a = c.args in
    c.nothing.ensures ∙ block_refuses a.lanes a.mode a.left a.bytes.now (rw c.block_size.ensures.value at c.min-count.ensures) c.past_block.ensures c.in-Err.is
