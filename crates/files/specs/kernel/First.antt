-- What `first` says, as it is put: none or a number.
use Rattle.std.specs.Prelude.{List, ℕ}
use Rattle.modes.specs.declared.Initial.{Initial}
use Rattle.modes.specs.declared.Initial.TheVariants.{None, Number}
use Rattle.modes.specs.declared.Mode.{Mode}
use Rattle.modes.specs.declared.Mode.TheVariants.{Plain, Sorted, Strict}
use Rattle.order.specs.Order.{starting_initial}
use Rattle.text.specs.Text.{word, decimal}

abbrev pub first_field : Mode → Initial
first_field Plain = None
first_field (Sorted f) = Number f
first_field (Strict i) = starting_initial i

-- its text is the header's `first_text` (proofs/Lines, first_text_lem)
abbrev pub initial_text : Initial → List ℕ
initial_text None = word "none"
initial_text (Number f) = decimal f
