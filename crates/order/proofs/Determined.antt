-- For each public function of the crate: it asks nothing of its caller; two answers that its contract allows for one input are equal, and so
-- is what it leaves in the memory that it was lent to write.
use mathlib.Core.Path.{sym, ◌∙◌}
use Rattle.answers.specs.Promises.{AsksNothing, AnswerDetermined}
use Rattle.order.proofs.starting_initial.Reads as starting_initial
use Rattle.order.proofs.starting_initial.Kinds as starting_initial_kinds
use Rattle.order.proofs.starting.Reads as starting
use Rattle.order.proofs.starting.Kinds as starting_kinds
use Rattle.order.proofs.after.Reads as after
use Rattle.order.proofs.after.Kinds as after_kinds
use Rattle.order.proofs.admits.Reads as admits
use Rattle.order.proofs.admits.Kinds as admits_kinds
use Rattle.order.proofs.next_entry.Reads as next_entry
use Rattle.order.proofs.next_entry.Kinds as next_entry_kinds
use Rattle.order.proofs.next_value.Reads as next_value
use Rattle.order.proofs.next_value.Kinds as next_value_kinds
use Rattle.order.proofs.in_order.Reads as in_order
use Rattle.order.proofs.in_order.Kinds as in_order_kinds
use Rattle.order.proofs.walk.Reads as walk
use Rattle.order.proofs.walk.Kinds as walk_kinds

starting_initial_asks_nothing : AsksNothing starting_initial_kinds.ps starting_initial.Pre
starting_initial_asks_nothing κs a = tt

starting_initial_determined : AnswerDetermined starting_initial_kinds.ps starting_initial_kinds.r starting_initial.Post
starting_initial_determined κs a z z' e e' p q = p ∙ sym q

starting_asks_nothing : AsksNothing starting_kinds.ps starting.Pre
starting_asks_nothing κs a = tt

starting_determined : AnswerDetermined starting_kinds.ps starting_kinds.r starting.Post
starting_determined κs a z z' e e' p q = p ∙ sym q

after_asks_nothing : AsksNothing after_kinds.ps after.Pre
after_asks_nothing κs a = tt

after_determined : AnswerDetermined after_kinds.ps after_kinds.r after.Post
after_determined κs a z z' e e' p q = p ∙ sym q

admits_asks_nothing : AsksNothing admits_kinds.ps admits.Pre
admits_asks_nothing κs a = tt

admits_determined : AnswerDetermined admits_kinds.ps admits_kinds.r admits.Post
admits_determined κs a z z' e e' p q = p ∙ sym q

next_entry_asks_nothing : AsksNothing next_entry_kinds.ps next_entry.Pre
next_entry_asks_nothing κs a = tt

next_entry_determined : AnswerDetermined next_entry_kinds.ps next_entry_kinds.r next_entry.Post
next_entry_determined κs a z z' e e' p q = p ∙ sym q

next_value_asks_nothing : AsksNothing next_value_kinds.ps next_value.Pre
next_value_asks_nothing κs a = tt

next_value_determined : AnswerDetermined next_value_kinds.ps next_value_kinds.r next_value.Post
next_value_determined κs a z z' e e' p q = p ∙ sym q

in_order_asks_nothing : AsksNothing in_order_kinds.ps in_order.Pre
in_order_asks_nothing κs a = tt

in_order_determined : AnswerDetermined in_order_kinds.ps in_order_kinds.r in_order.Post
in_order_determined κs a z z' e e' p q = p ∙ sym q

walk_asks_nothing : AsksNothing walk_kinds.ps walk.Pre
walk_asks_nothing κs a = tt

walk_determined : AnswerDetermined walk_kinds.ps walk_kinds.r walk.Post
walk_determined κs a z z' e e' p q = p ∙ sym q
