-- A block that is refused stops it; one that is taken is one more; at the end is what stands behind the last block.
use Rattle.std.proofs.Common.{sym, ◌∙◌, arith}
use Rattle.lists.proofs.Takes.{taking_end, stops_here, block_within, taking_more}
use Rattle.lists.proofs.take.take_body.Goals as goal

pub returns-then-is_err : goal.returns-then-is_err
returns-then-is_err c =
    stops_here c.loop.invariant (rw c.block_count-end.ensures at c.loop-test.true) c.take_block-next.ensures (sym c.is_err.ensures.value ∙ c.if-is_err.true)

pub overflow_add-stop-in-loop : goal.overflow_add-stop-in-loop
overflow_add-stop-in-loop c =
    omega (arith, block_within c.loop.invariant (rw c.block_count-end.ensures at c.loop-test.true) c.take_block-next.ensures (sym c.is_err.ensures.value ∙ c.if-is_err.false))

pub loop-preserved : goal.loop-preserved
loop-preserved c =
    taking_more c.loop.invariant (rw c.block_count-end.ensures at c.loop-test.true) c.take_block-next.ensures (sym c.is_err.ensures.value ∙ c.if-is_err.false)

pub returns : goal.returns
returns c = taking_end c.loop.invariant (rw c.block_count-end.ensures at c.loop-test.false) c.check_end-stop.ensures
