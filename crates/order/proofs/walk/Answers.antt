-- A value that is not admitted ends it; one that is, is one more; at the end the mode is the one past them all.
use Rattle.std.proofs.Common.{sym, ◌∙◌}
use Rattle.order.specs.Order.{values_of}
use Rattle.order.proofs.Going.{going_none, walking_on, walk_ends}
use Rattle.order.proofs.walk.Goals as goal

pub loop-e-init : goal.loop-e-init
unfolding values_of
loop-e-init c = going_none _

pub returns-then-not-admits : goal.returns-then-not-admits
returns-then-not-admits c =
    walk_ends c.args.entries.now c.loop-e.e-index c.loop-e.invariant c.loop-e-test.true
    (rw (← c.next_value-v.ensures) (sym c.admits.ensures ∙ c.if-not-admits.true))

pub loop-e-preserved : goal.loop-e-preserved
loop-e-preserved c =
    rw (c.after-running.ensures, c.next_value-v.ensures)
    (walking_on c.args.entries.now c.loop-e.e-index c.loop-e.invariant c.loop-e-test.true
    (rw (← c.next_value-v.ensures) (sym c.admits.ensures ∙ c.if-not-admits.false)))
