-- The first i bytes are there.
use Rattle.std.proofs.Common.{◌≤◌}
use Rattle.layout.specs.Layout.{table}
use Rattle.answers.proofs.Fronts.{Front}
use Rattle.tables.specs.Tables.{hex_byte}
use Rattle.tables.proofs.decode.Given as goal

abbrev pub invariant-loop-i : goal.invariant-loop-i
invariant-loop-i l = (l.i ≤ l.count) × Front (table (hex_byte l.hex) l.i) l.fn.bytes l.bytes
