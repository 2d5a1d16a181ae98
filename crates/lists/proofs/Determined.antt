-- For each public function of the crate: it asks nothing of its caller; two answers that its contract allows for one input are equal, and so
-- is what it leaves in the memory that it was lent to write.
use mathlib.Core.Path.{sym, ◌∙◌}
use Rattle.answers.specs.Promises.{AsksNothing, AnswerDetermined, Determined}
use Rattle.lists.proofs.measure.Reads as measure
use Rattle.lists.proofs.measure.Kinds as measure_kinds
use Rattle.lists.proofs.write.Reads as write
use Rattle.lists.proofs.write.Kinds as write_kinds
use Rattle.lists.proofs.read.Reads as read
use Rattle.lists.proofs.read.Kinds as read_kinds
use Rattle.lists.proofs.frame.Reads as frame
use Rattle.lists.proofs.frame.Kinds as frame_kinds
use Rattle.lists.proofs.check_block.Reads as check_block
use Rattle.lists.proofs.check_block.Kinds as check_block_kinds
use Rattle.lists.proofs.read_block.Reads as read_block
use Rattle.lists.proofs.read_block.Kinds as read_block_kinds
use Rattle.lists.proofs.check.Reads as check
use Rattle.lists.proofs.check.Kinds as check_kinds

measure_asks_nothing : AsksNothing measure_kinds.ps measure.Pre
measure_asks_nothing κs a = tt

measure_determined : AnswerDetermined measure_kinds.ps measure_kinds.r measure.Post
measure_determined κs a z z' e e' p q = p ∙ sym q

write_asks_nothing : AsksNothing write_kinds.ps write.Pre
write_asks_nothing κs a = tt

write_determined : Determined write_kinds.ps write_kinds.r write.Post (λ κs e. e.1.1.1.0.now)
write_determined κs a z z' e e' p q = (p.0 ∙ sym q.0, p.1.0 ∙ sym q.1.0)

read_asks_nothing : AsksNothing read_kinds.ps read.Pre
read_asks_nothing κs a = tt

read_determined : Determined read_kinds.ps read_kinds.r read.Post (λ κs e. e.1.1.1.1.0.now)
read_determined κs a z z' e e' p q = (p.0 ∙ sym q.0, p.1.0 ∙ sym q.1.0)

frame_asks_nothing : AsksNothing frame_kinds.ps frame.Pre
frame_asks_nothing κs a = tt

frame_determined : AnswerDetermined frame_kinds.ps frame_kinds.r frame.Post
frame_determined κs a z z' e e' p q = p ∙ sym q

check_block_asks_nothing : AsksNothing check_block_kinds.ps check_block.Pre
check_block_asks_nothing κs a = tt

check_block_determined : AnswerDetermined check_block_kinds.ps check_block_kinds.r check_block.Post
check_block_determined κs a z z' e e' p q = p ∙ sym q

read_block_asks_nothing : AsksNothing read_block_kinds.ps read_block.Pre
read_block_asks_nothing κs a = tt

read_block_determined : Determined read_block_kinds.ps read_block_kinds.r read_block.Post (λ κs e. e.1.1.1.1.0.now)
read_block_determined κs a z z' e e' p q = (p.0 ∙ sym q.0, p.1 ∙ sym q.1)

check_asks_nothing : AsksNothing check_kinds.ps check.Pre
check_asks_nothing κs a = tt

check_determined : AnswerDetermined check_kinds.ps check_kinds.r check.Post
check_determined κs a z z' e e' p q = p.0 ∙ sym q.0
