-- What stands before `rest` are values' lines.
use Rattle.std.proofs.Common.{length}
use Rattle.programs.proofs.ValueLines.{Reading}
use Rattle.programs.proofs.lines.read_values.Given as goal

abbrev pub invariant-loop-line : goal.invariant-loop-line
invariant-loop-line l = Reading l.bytes l.initial.values l.rest l.count l.values

abbrev pub decreases-loop-line : goal.decreases-loop-line
decreases-loop-line l = length l.rest
