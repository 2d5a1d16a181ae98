-- A value that is not admitted ends it; one that is, is one more.
use Rattle.std.proofs.Common.{sym, ◌∙◌}
use Rattle.order.proofs.Going.{going_none, going_on, out_of_order}
use Rattle.order.proofs.in_order.Goals as goal

pub loop-v-init : goal.loop-v-init
loop-v-init c = going_none _

pub returns-then-not-admits : goal.returns-then-not-admits
returns-then-not-admits c =
    sym (out_of_order c.args.values.now c.loop-v.v-index c.loop-v.invariant c.loop-v-test.true (sym c.admits.ensures ∙ c.if-not-admits.true))

pub loop-v-preserved : goal.loop-v-preserved
loop-v-preserved c =
    rw c.after-running.ensures
    (going_on c.args.values.now c.loop-v.v-index c.loop-v.invariant c.loop-v-test.true (sym c.admits.ensures ∙ c.if-not-admits.false))
