-- For each public function of the crate: it asks nothing of its caller; two answers that its contract allows for one input are equal, and so
-- is what it leaves in the memory that it was lent to write.
use Rattle.std.proofs.Common.{sym, ◌∙◌}
use Rattle.answers.specs.Promises.{AsksNothing, AnswerDetermined}
use Rattle.lanes.specs.Promises.{RowDetermined}
use Rattle.lanes.proofs.Rows.{row_once}
use Rattle.lanes.proofs.most_significant_bit.Reads as most_significant_bit
use Rattle.lanes.proofs.most_significant_bit.Kinds as most_significant_bit_kinds
use Rattle.lanes.proofs.Lanes.new.Reads as Lanes_new
use Rattle.lanes.proofs.Lanes.new.Kinds as Lanes_new_kinds
use Rattle.lanes.proofs.Lanes.count.Reads as count
use Rattle.lanes.proofs.Lanes.count.Kinds as count_kinds
use Rattle.lanes.proofs.Lanes.block_size.Reads as block_size
use Rattle.lanes.proofs.Lanes.block_size.Kinds as block_size_kinds
use Rattle.lanes.proofs.Lanes.payload_size.Reads as payload_size
use Rattle.lanes.proofs.Lanes.payload_size.Kinds as payload_size_kinds
use Rattle.lanes.proofs.Width.new.Reads as Width_new
use Rattle.lanes.proofs.Width.new.Kinds as Width_new_kinds
use Rattle.lanes.proofs.Width.bits.Reads as bits
use Rattle.lanes.proofs.Width.bits.Kinds as bits_kinds
use Rattle.lanes.proofs.scalar.set1.Reads as set1
use Rattle.lanes.proofs.scalar.set1.Kinds as set1_kinds
use Rattle.lanes.proofs.scalar.left_shift_32.Reads as left_shift_32
use Rattle.lanes.proofs.scalar.left_shift_32.Kinds as left_shift_32_kinds
use Rattle.lanes.proofs.scalar.right_shift_32.Reads as right_shift_32
use Rattle.lanes.proofs.scalar.right_shift_32.Kinds as right_shift_32_kinds
use Rattle.lanes.proofs.scalar.op_or.Reads as op_or
use Rattle.lanes.proofs.scalar.op_or.Kinds as op_or_kinds
use Rattle.lanes.proofs.scalar.op_and.Reads as op_and
use Rattle.lanes.proofs.scalar.op_and.Kinds as op_and_kinds
use Rattle.lanes.proofs.scalar.or_collapse_to_u32.Reads as or_collapse_to_u32
use Rattle.lanes.proofs.scalar.or_collapse_to_u32.Kinds as or_collapse_to_u32_kinds
use Rattle.lanes.proofs.scalar.add.Reads as add
use Rattle.lanes.proofs.scalar.add.Kinds as add_kinds
use Rattle.lanes.proofs.scalar.sub.Reads as sub
use Rattle.lanes.proofs.scalar.sub.Kinds as sub_kinds
use Rattle.lanes.proofs.scalar.compute_delta.Reads as compute_delta
use Rattle.lanes.proofs.scalar.compute_delta.Kinds as compute_delta_kinds
use Rattle.lanes.proofs.scalar.integrate_delta.Reads as integrate_delta
use Rattle.lanes.proofs.scalar.integrate_delta.Kinds as integrate_delta_kinds

most_significant_bit_asks_nothing : AsksNothing most_significant_bit_kinds.ps most_significant_bit.Pre
most_significant_bit_asks_nothing κs a = tt

most_significant_bit_determined : AnswerDetermined most_significant_bit_kinds.ps most_significant_bit_kinds.r most_significant_bit.Post
most_significant_bit_determined κs a z z' e e' p q = p ∙ sym q

Lanes_new_asks_nothing : AsksNothing Lanes_new_kinds.ps Lanes_new.Pre
Lanes_new_asks_nothing κs a = tt

Lanes_new_determined : AnswerDetermined Lanes_new_kinds.ps Lanes_new_kinds.r Lanes_new.Post
Lanes_new_determined κs a z z' e e' p q = p ∙ sym q

count_asks_nothing : AsksNothing count_kinds.ps count.Pre
count_asks_nothing κs a = tt

count_determined : AnswerDetermined count_kinds.ps count_kinds.r count.Post
count_determined κs a z z' e e' p q = p.0 ∙ sym q.0

block_size_asks_nothing : AsksNothing block_size_kinds.ps block_size.Pre
block_size_asks_nothing κs a = tt

block_size_determined : AnswerDetermined block_size_kinds.ps block_size_kinds.r block_size.Post
block_size_determined κs a z z' e e' p q = p.0 ∙ sym q.0

payload_size_asks_nothing : AsksNothing payload_size_kinds.ps payload_size.Pre
payload_size_asks_nothing κs a = tt

payload_size_determined : AnswerDetermined payload_size_kinds.ps payload_size_kinds.r payload_size.Post
payload_size_determined κs a z z' e e' p q = p.0 ∙ sym q.0

Width_new_asks_nothing : AsksNothing Width_new_kinds.ps Width_new.Pre
Width_new_asks_nothing κs a = tt

Width_new_determined : AnswerDetermined Width_new_kinds.ps Width_new_kinds.r Width_new.Post
Width_new_determined κs a z z' e e' p q = p ∙ sym q

bits_asks_nothing : AsksNothing bits_kinds.ps bits.Pre
bits_asks_nothing κs a = tt

bits_determined : AnswerDetermined bits_kinds.ps bits_kinds.r bits.Post
bits_determined κs a z z' e e' p q = p.0 ∙ sym q.0

set1_asks_nothing : AsksNothing set1_kinds.ps set1.Pre
set1_asks_nothing κs a = tt

set1_determined : RowDetermined set1_kinds.ps set1_kinds.r set1.Post (λ κs z. z)
set1_determined κs a z z' e e' long long' p q = row_once long long' p q

left_shift_32_asks_nothing : AsksNothing left_shift_32_kinds.ps left_shift_32.Pre
left_shift_32_asks_nothing κs a = tt

left_shift_32_determined : RowDetermined left_shift_32_kinds.ps left_shift_32_kinds.r left_shift_32.Post (λ κs z. z)
left_shift_32_determined κs a z z' e e' long long' p q = row_once long long' p q

right_shift_32_asks_nothing : AsksNothing right_shift_32_kinds.ps right_shift_32.Pre
right_shift_32_asks_nothing κs a = tt

right_shift_32_determined : RowDetermined right_shift_32_kinds.ps right_shift_32_kinds.r right_shift_32.Post (λ κs z. z)
right_shift_32_determined κs a z z' e e' long long' p q = row_once long long' p q

op_or_asks_nothing : AsksNothing op_or_kinds.ps op_or.Pre
op_or_asks_nothing κs a = tt

op_or_determined : RowDetermined op_or_kinds.ps op_or_kinds.r op_or.Post (λ κs z. z)
op_or_determined κs a z z' e e' long long' p q = row_once long long' p q

op_and_asks_nothing : AsksNothing op_and_kinds.ps op_and.Pre
op_and_asks_nothing κs a = tt

op_and_determined : RowDetermined op_and_kinds.ps op_and_kinds.r op_and.Post (λ κs z. z)
op_and_determined κs a z z' e e' long long' p q = row_once long long' p q

or_collapse_to_u32_asks_nothing : AsksNothing or_collapse_to_u32_kinds.ps or_collapse_to_u32.Pre
or_collapse_to_u32_asks_nothing κs a = tt

or_collapse_to_u32_determined : AnswerDetermined or_collapse_to_u32_kinds.ps or_collapse_to_u32_kinds.r or_collapse_to_u32.Post
or_collapse_to_u32_determined κs a z z' e e' p q = p ∙ sym q

add_asks_nothing : AsksNothing add_kinds.ps add.Pre
add_asks_nothing κs a = tt

add_determined : RowDetermined add_kinds.ps add_kinds.r add.Post (λ κs z. z)
add_determined κs a z z' e e' long long' p q = row_once long long' p q

sub_asks_nothing : AsksNothing sub_kinds.ps sub.Pre
sub_asks_nothing κs a = tt

sub_determined : RowDetermined sub_kinds.ps sub_kinds.r sub.Post (λ κs z. z)
sub_determined κs a z z' e e' long long' p q = row_once long long' p q

compute_delta_asks_nothing : AsksNothing compute_delta_kinds.ps compute_delta.Pre
compute_delta_asks_nothing κs a = tt

compute_delta_determined : RowDetermined compute_delta_kinds.ps compute_delta_kinds.r compute_delta.Post (λ κs z. z)
compute_delta_determined κs a z z' e e' long long' p q = row_once long long' p q

integrate_delta_asks_nothing : AsksNothing integrate_delta_kinds.ps integrate_delta.Pre
integrate_delta_asks_nothing κs a = tt

integrate_delta_determined : RowDetermined integrate_delta_kinds.ps integrate_delta_kinds.r integrate_delta.Post (λ κs z. z)
integrate_delta_determined κs a z z' e e' long long' p q = row_once long long' p q
