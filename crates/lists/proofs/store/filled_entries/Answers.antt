-- One entry more.
use Rattle.std.proofs.Common.{arith}
use Rattle.lists.proofs.Stores.{filling_none, filling_more}
use Rattle.lists.proofs.store.filled_entries.Goals as goal

pub loop-i-init : goal.loop-i-init
loop-i-init c = filling_none _ _ _

pub loop-i-preserved : goal.loop-i-preserved
loop-i-preserved c =
    filling_more c.loop-i.invariant c.loop-i-test.true (omega (arith, c.requires)) c.next_entry.ensures c.after-running.ensures
