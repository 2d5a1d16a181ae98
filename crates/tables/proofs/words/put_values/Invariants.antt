-- The first so many values are there, and the rest of the text is that from the next number on.
use Rattle.std.proofs.Common.{◌≡◌, ◌≤◌, length}
use Rattle.layout.specs.Layout.{table}
use Rattle.answers.proofs.Fronts.{Front}
use Rattle.tables.specs.Words.{list_from, listed_before, listed}
use Rattle.tables.proofs.words.put_values.Given as goal

abbrev pub invariant-loop-value : goal.invariant-loop-value
invariant-loop-value l = (l.value-index ≤ length l.fn.values) × Front (table (listed l.fn.text l.fn.step) l.value-index) l.fn.values l.values × (l.rest ≡ list_from l.fn.text l.value-index) × (l.previous ≡ listed_before l.fn.text l.fn.step l.value-index)
