-- Each test is the definition's: the filling is 0 where it fits width 0, and the width is asked of the block call.
use Rattle.std.proofs.Common.{sym, ◌∙◌}
use borrow.Author.Tests.{eq-eqb, ne_eqb}
use Rattle.lists.specs.kernel.Steps.{entries_refusal}
use Rattle.lists.proofs.BlockCalls.{width_found}
use Rattle.lists.proofs.Takes.{fill_told}
use Rattle.lists.proofs.take.check_entries.Goals as goal

pub returns-then-not-zeros : goal.returns-then-not-zeros
unfolding entries_refusal
returns-then-not-zeros c =
    let a = c.args in
    rw (sym (fill_told a.lanes a.count a.entries.now c.requires.1 c.zeros.ensures) ∙ c.if-not-zeros.true)

pub returns-then-bits-least : goal.returns-then-bits-least
unfolding entries_refusal
returns-then-bits-least c =
    let a = c.args in
    let told = width_found a.lanes (rw c.count.ensures.value at c.count.ensures.told) a.entries.now c.requires.1 (rw c.count.ensures.value at c.num_bits.ensures) c.unwrap-least.ensures in
    rw (sym (fill_told a.lanes a.count a.entries.now c.requires.1 c.zeros.ensures) ∙ c.if-not-zeros.false, ← told, ne_eqb _ _ (rw c.bits.ensures.value at c.if-bits-least.true))

pub returns : goal.returns
unfolding entries_refusal
returns c =
    let a = c.args in
    let told = width_found a.lanes (rw c.count.ensures.value at c.count.ensures.told) a.entries.now c.requires.1 (rw c.count.ensures.value at c.num_bits.ensures) c.unwrap-least.ensures in
    rw (sym (fill_told a.lanes a.count a.entries.now c.requires.1 c.zeros.ensures) ∙ c.if-not-zeros.false, ← told, eq-eqb _ _ (rw c.bits.ensures.value at c.if-bits-least.false))
