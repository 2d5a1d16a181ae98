-- A line more at each turn, up to the first that is no value's or to the end.
use Rattle.std.proofs.Common.{sym, ◌∙◌, length, ◌-◌, ◌+◌}
use borrow.Rule.Slice.PartMut.{mid_of}
use Rattle.programs.proofs.ValueLines.{Reading, reading_none, reading_smaller, reading_stop, reading_kept, reading_full}
use Rattle.programs.proofs.lines.read_values.Goals as goal
use Rattle.programs.proofs.lines.read_values.Goals.{then-count-values, else-count-values}

pub loop-line-init : goal.loop-line-init
loop-line-init c = reading_none c.args.bytes.now c.args.values.now

pub loop-line-smaller : goal.loop-line-smaller
loop-line-smaller c =
    let told = sym c.in-Some.is ∙ c.number_line.ensures.value in
    reading_smaller c.loop-line.invariant c.in-Some.line told

pub loop-line-preserved : goal.loop-line-preserved
loop-line-preserved c =
    let told = sym c.in-Some.is ∙ c.number_line.ensures.value in
    elim c.if-count-values.branch as (λ b. Reading c.args.bytes.now c.args.values.now (mid_of c.in-Some.line.length (length c.loop-line.rest.now - c.in-Some.line.length) c.loop-line.rest.now) (c.loop-line.count + 1) c.if-count-values.values) [
      | then-count-values w ↦ rw w.values-is (reading_kept c.loop-line.invariant c.in-Some.line told w.if-count-values.true)
      | else-count-values w ↦ rw w.values-is (reading_full c.loop-line.invariant c.in-Some.line told w.if-count-values.false)
    ]

pub returns : goal.returns
returns c =
    let p = reading_stop c.loop-line.invariant (sym c.in_default.is ∙ c.number_line.ensures.value) in
    record { value = c.then_some.ensures ∙ rw c.is_empty.ensures p.0; values_after = p.1 }
