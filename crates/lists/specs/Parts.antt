-- A part of a body: the calls that document 01 does not name, on a single block and on how far a body can be read. bs are the bytes from a
-- block on, count is how many values are left, and m is the mode past the values before them: for a list's first block `starting` of the
-- list's mode (order/specs/Order).
use Rattle.std.specs.Prelude.{not, List, ℕ, min, ltb, length, Result}
use Rattle.modes.specs.declared.Mode.{Mode}
use Rattle.answers.specs.declared.Refusal.{Refusal}
use Rattle.answers.specs.declared.Refusal.TheVariants.{BadLanes, NoRoom, TooMany}
use Rattle.answers.specs.Refusals.{Tested, accept, refuse}
use Rattle.answers.specs.Answers.{answer, written}
use Rattle.layout.specs.Layout.{block_size, is_lanes}
use Rattle.order.specs.Order.{starting}
use Rattle.bodies.specs.List.{most}
use Rattle.bodies.specs.declared.Stop.{Stop}
use Rattle.bodies.specs.Reading.{size_at, values_at, frame_refusal, block_refusal}
use Rattle.bodies.specs.Stops.{or_stop, block_stop, body_stop}

-- the frame of a block: 1; 5, 2, 5. The length is the block's.
abbrev pub frame_answer : ℕ → List ℕ → Result ℕ Refusal
frame_answer L bs = answer (refuse (not (is_lanes L)) BadLanes (frame_refusal L bs)) (size_at L bs)

-- a block: 1; 5, 2, 5, 10, 9, 8. At 1 no value is looked at, and `left` is 0.
abbrev pub check_block_stop : ℕ → Mode → ℕ → List ℕ → Stop
check_block_stop L m count bs = or_stop (refuse (not (is_lanes L)) BadLanes accept) 0 m (block_stop L m count bs)

-- a block read into an output of `room` values: 1, 4; 5, 2, 5, 10, 9, 8
abbrev pub read_block_refusal : ℕ → Mode → ℕ → List ℕ → ℕ → Tested
read_block_refusal L m count bs room =
    refuse (not (is_lanes L)) BadLanes
    (refuse (ltb room (min (block_size L) count)) NoRoom
    (block_refusal L m (min (block_size L) count) bs))

-- how many of its values are the list's, and these at the front of the output
abbrev pub read_block_answer : ℕ → Mode → ℕ → List ℕ → ℕ → Result ℕ Refusal
read_block_answer L m count bs room = answer (read_block_refusal L m count bs room) (min (block_size L) count)

abbrev pub read_block_output : ℕ → Mode → ℕ → List ℕ → List ℕ → List ℕ
read_block_output L m count bs before = written (read_block_refusal L m count bs (length before)) (values_at L m (min (block_size L) count) bs) before

-- a body of count values, m the list's mode: 1, 7; then block by block, at the end 11. At 1 and 7 no value is looked at, and
-- `left` is 0.
abbrev pub check_stop : ℕ → Mode → ℕ → List ℕ → Stop
check_stop L m count bs =
    or_stop (refuse (not (is_lanes L)) BadLanes (refuse (ltb most count) TooMany accept)) 0 m
    (body_stop L (starting m) count bs)
