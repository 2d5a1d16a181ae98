-- The list calls of document 01: which refusal each gives, what it answers, and what it leaves in lent memory.
use Rattle.std.specs.Prelude.{not, List, ℕ, ltb, length, Result}
use Rattle.modes.specs.declared.Mode.{Mode}
use Rattle.answers.specs.declared.Refusal.{Refusal}
use Rattle.answers.specs.declared.Refusal.TheVariants.{BadLanes, NoRoom, TooMany}
use Rattle.answers.specs.Refusals.{Tested, accept, refuse}
use Rattle.layout.specs.Layout.{is_lanes}
use Rattle.answers.specs.Answers.{answer, written}
use Rattle.order.specs.Order.{starting}
use Rattle.bodies.specs.List.{most}
use Rattle.bodies.specs.Body.{body_of}
use Rattle.bodies.specs.Reading.{refuse_values, body_refusal, list_of}

-- what values are refused for, whatever the room: the 1, 7, 8 of writing
unfoldable pub measure_refusal : ℕ → Mode → List ℕ → Tested
measure_refusal L m vs =
    refuse (not (is_lanes L)) BadLanes
    (refuse (ltb most (length vs)) TooMany
    (refuse_values (starting m) vs
    accept))

-- the length that the body has
abbrev pub measure_answer : ℕ → Mode → List ℕ → Result ℕ Refusal
measure_answer L m vs = answer (measure_refusal L m vs) (length (body_of L m vs))

-- "1, 7, 8, 4": writing the values vs, as `size` bytes, into an output of `room` bytes. Of a list and of a file.
abbrev pub writing_refusal : ℕ → Mode → List ℕ → ℕ → ℕ → Tested
writing_refusal L m vs size room =
    refuse (not (is_lanes L)) BadLanes
    (refuse (ltb most (length vs)) TooMany
    (refuse_values (starting m) vs
    (refuse (ltb room size) NoRoom
    accept)))

-- "Write a list: 1, 7, 8, 4"
abbrev pub write_refusal : ℕ → Mode → List ℕ → ℕ → Tested
write_refusal L m vs room = writing_refusal L m vs (length (body_of L m vs)) room

-- the body's length, and the body at the front of the output
abbrev pub write_answer : ℕ → Mode → List ℕ → ℕ → Result ℕ Refusal
write_answer L m vs room = answer (write_refusal L m vs room) (length (body_of L m vs))

abbrev pub write_output : ℕ → Mode → List ℕ → List ℕ → List ℕ
write_output L m vs before = written (write_refusal L m vs (length before)) (body_of L m vs) before

-- "Read a list: 1, 7, 4; then block by block ..", for the body bs and an output of `room` values
abbrev pub read_refusal : ℕ → Mode → ℕ → List ℕ → ℕ → Tested
read_refusal L m count bs room =
    refuse (not (is_lanes L)) BadLanes
    (refuse (ltb most count) TooMany
    (refuse (ltb room count) NoRoom
    (body_refusal L (starting m) count bs)))

-- the count, and the list at the front of the output
abbrev pub read_answer : ℕ → Mode → ℕ → List ℕ → ℕ → Result ℕ Refusal
read_answer L m count bs room = answer (read_refusal L m count bs room) count

abbrev pub read_output : ℕ → Mode → ℕ → List ℕ → List ℕ → List ℕ
read_output L m count bs before = written (read_refusal L m count bs (length before)) (list_of L m count bs) before
