-- The lines of the values so far are there.
use Rattle.programs.proofs.ValueLines.{Writing}
use Rattle.programs.proofs.lines.put_values.Given as goal

abbrev pub invariant-loop-v : goal.invariant-loop-v
invariant-loop-v l = Writing l.values l.initial.out l.v-index l.length l.out
