-- For each public function of the crate: it asks nothing of its caller; two answers that its contract allows for one input are equal, and so
-- is what it leaves in the memory that it was lent to write.
use mathlib.Core.Path.{sym, ◌∙◌}
use Rattle.answers.specs.Promises.{AsksNothing, AnswerDetermined, Determined}
use Rattle.text.proofs.put.Reads as put
use Rattle.text.proofs.put.Kinds as put_kinds
use Rattle.text.proofs.put_decimal.Reads as put_decimal
use Rattle.text.proofs.put_decimal.Kinds as put_decimal_kinds
use Rattle.text.proofs.put_line.Reads as put_line
use Rattle.text.proofs.put_line.Kinds as put_line_kinds
use Rattle.text.proofs.put_number_line.Reads as put_number_line
use Rattle.text.proofs.put_number_line.Kinds as put_number_line_kinds
use Rattle.text.proofs.begins.Reads as begins
use Rattle.text.proofs.begins.Kinds as begins_kinds
use Rattle.text.proofs.number_line.Reads as number_line
use Rattle.text.proofs.number_line.Kinds as number_line_kinds

put_asks_nothing : AsksNothing put_kinds.ps put.Pre
put_asks_nothing κs a = tt

put_determined : Determined put_kinds.ps put_kinds.r put.Post (λ κs e. e.1.0.now)
put_determined κs a z z' e e' p q = (p.0 ∙ sym q.0, p.1 ∙ sym q.1)

put_decimal_asks_nothing : AsksNothing put_decimal_kinds.ps put_decimal.Pre
put_decimal_asks_nothing κs a = tt

put_decimal_determined : Determined put_decimal_kinds.ps put_decimal_kinds.r put_decimal.Post (λ κs e. e.1.0.now)
put_decimal_determined κs a z z' e e' p q = (p.0 ∙ sym q.0, p.1 ∙ sym q.1)

put_line_asks_nothing : AsksNothing put_line_kinds.ps put_line.Pre
put_line_asks_nothing κs a = tt

put_line_determined : Determined put_line_kinds.ps put_line_kinds.r put_line.Post (λ κs e. e.1.1.0.now)
put_line_determined κs a z z' e e' p q = (p.0 ∙ sym q.0, p.1 ∙ sym q.1)

put_number_line_asks_nothing : AsksNothing put_number_line_kinds.ps put_number_line.Pre
put_number_line_asks_nothing κs a = tt

put_number_line_determined : Determined put_number_line_kinds.ps put_number_line_kinds.r put_number_line.Post (λ κs e. e.1.1.0.now)
put_number_line_determined κs a z z' e e' p q = (p.0 ∙ sym q.0, p.1 ∙ sym q.1)

begins_asks_nothing : AsksNothing begins_kinds.ps begins.Pre
begins_asks_nothing κs a = tt

begins_determined : AnswerDetermined begins_kinds.ps begins_kinds.r begins.Post
begins_determined κs a z z' e e' p q = p.0 ∙ sym q.0

number_line_asks_nothing : AsksNothing number_line_kinds.ps number_line.Pre
number_line_asks_nothing κs a = tt

number_line_determined : AnswerDetermined number_line_kinds.ps number_line_kinds.r number_line.Post
number_line_determined κs a z z' e e' p q = p.0 ∙ sym q.0
