-- For each public function of the crate: it asks nothing of its caller; two answers that its contract allows for one input are equal, and so
-- is what it leaves in the memory that it was lent to write.
use mathlib.Core.Path.{sym, ◌∙◌}
use Rattle.answers.specs.Promises.{AsksNothing, Determined}
use Rattle.programs.proofs.list_to_text.Reads as list_to_text
use Rattle.programs.proofs.list_to_text.Kinds as list_to_text_kinds
use Rattle.programs.proofs.text_to_list.Reads as text_to_list
use Rattle.programs.proofs.text_to_list.Kinds as text_to_list_kinds

list_to_text_asks_nothing : AsksNothing list_to_text_kinds.ps list_to_text.Pre
list_to_text_asks_nothing κs a = tt

list_to_text_determined : Determined list_to_text_kinds.ps list_to_text_kinds.r list_to_text.Post (λ κs e. e.1.0.now)
list_to_text_determined κs a z z' e e' p q = (p.0 ∙ sym q.0, p.1.0 ∙ sym q.1.0)

text_to_list_asks_nothing : AsksNothing text_to_list_kinds.ps text_to_list.Pre
text_to_list_asks_nothing κs a = tt

text_to_list_determined : Determined text_to_list_kinds.ps text_to_list_kinds.r text_to_list.Post (λ κs e. e.1.0.now)
text_to_list_determined κs a z z' e e' p q = (p.0 ∙ sym q.0, p.1.0 ∙ sym q.1.0)
