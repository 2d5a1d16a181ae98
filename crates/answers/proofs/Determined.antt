-- For each public function of the crate: it asks nothing of its caller, and two answers that its contract allows for one input are equal.
use mathlib.Core.Path.{sym, ◌∙◌}
use Rattle.answers.specs.Promises.{AsksNothing, AnswerDetermined}
use Rattle.answers.proofs.Refusal.number.Reads as number
use Rattle.answers.proofs.Refusal.number.Kinds as number_kinds

number_asks_nothing : AsksNothing number_kinds.ps number.Pre
number_asks_nothing κs a = tt

number_determined : AnswerDetermined number_kinds.ps number_kinds.r number.Post
number_determined κs a z z' e e' p q = p ∙ sym q
