-- For each public function of the crate: it asks nothing of its caller; two answers that its contract allows for one input are equal, and so
-- is what it leaves in the memory that it was lent to write.
use mathlib.Core.Path.{sym, ◌∙◌}
use Rattle.answers.specs.Promises.{AsksNothing, AnswerDetermined}
use Rattle.lanes.specs.Promises.{RowDetermined}
use Rattle.lanes.proofs.Rows.{row_once}
use Rattle.modes.proofs.initial_value.Reads as initial_value
use Rattle.modes.proofs.initial_value.Kinds as initial_value_kinds
use Rattle.modes.proofs.transform.Reads as transform
use Rattle.modes.proofs.transform.Kinds as transform_kinds
use Rattle.modes.proofs.process.Reads as process
use Rattle.modes.proofs.process.Kinds as process_kinds

initial_value_asks_nothing : AsksNothing initial_value_kinds.ps initial_value.Pre
initial_value_asks_nothing κs a = tt

initial_value_determined : AnswerDetermined initial_value_kinds.ps initial_value_kinds.r initial_value.Post
initial_value_determined κs a z z' e e' p q = p ∙ sym q

transform_asks_nothing : AsksNothing transform_kinds.ps transform.Pre
transform_asks_nothing κs a = tt

transform_determined : RowDetermined transform_kinds.ps transform_kinds.r transform.Post (λ κs z. z)
transform_determined κs a z z' e e' long long' p q = row_once long long' p q

process_asks_nothing : AsksNothing process_kinds.ps process.Pre
process_asks_nothing κs a = tt

process_determined : RowDetermined process_kinds.ps process_kinds.r process.Post (λ κs z. z)
process_determined κs a z z' e e' long long' p q = row_once long long' p q
