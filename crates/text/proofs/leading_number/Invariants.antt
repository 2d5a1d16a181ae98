-- Behind the number that the digits so far stand for, the others are left.
use Rattle.std.proofs.Common.{◌≡◌}
use Rattle.text.specs.Text.{leading_number}
use Rattle.text.proofs.Numbers.{reading}
use Rattle.text.proofs.leading_number.Given as goal

abbrev pub invariant-loop-digit : goal.invariant-loop-digit
invariant-loop-digit l = reading l.value l.digit-iterator.n l.digit-iterator.iter.rest.now ≡ leading_number l.bytes
