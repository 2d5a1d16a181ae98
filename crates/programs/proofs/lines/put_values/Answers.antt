-- A line more at each turn, and room for it.
use Rattle.std.proofs.Common.{sym, ◌∙◌}
use Rattle.programs.proofs.ValueLines.{writing_none, writing_fitted, writing_more}
use Rattle.programs.proofs.lines.put_values.Goals as goal

pub loop-v-init : goal.loop-v-init
loop-v-init c = writing_none c.args.values.now c.args.out.now

pub unwrap-length-requires : goal.unwrap-length-requires
unwrap-length-requires c = rw c.put_number_line.ensures.value (writing_fitted c.loop-v.invariant c.requires c.loop-v-test.true)

pub loop-v-preserved : goal.loop-v-preserved
loop-v-preserved c =
    let p = c.put_number_line.ensures in
    writing_more c.loop-v.invariant c.requires c.loop-v-test.true _ c.put_number_line.new.out (sym p.value ∙ c.unwrap-length.ensures) p.out_after
