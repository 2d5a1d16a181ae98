-- "Block calls" of document 01: which refusal each call gives, what it answers, and what it leaves in lent memory.
use Rattle.std.specs.Prelude.{not, List, ℕ, ltb, eqb, length, Result}
use Rattle.answers.specs.declared.Refusal.{Refusal}
use Rattle.answers.specs.declared.Refusal.TheVariants.{BadLanes, BadWidth, BadBlock, NoRoom, CutShort, TooWide}
use Rattle.answers.specs.Refusals.{Tested, accept, refuse}
use Rattle.answers.specs.Answers.{answer, written}
use Rattle.layout.specs.Layout.{at, is_lanes, block_size, payload_size, table, packed, payload_entry}
use Rattle.layout.specs.Width.{fits, least_width}
use Rattle.modes.specs.declared.Mode.{Mode}
use Rattle.modes.specs.Entries.{entries, values}

-- "Payload size: 1, 2."
abbrev pub size_refusal : ℕ → ℕ → Tested
size_refusal L n =
    refuse (not (is_lanes L)) BadLanes
    (refuse (ltb 32 n) BadWidth
    accept)

-- "A payload has 4Ln bytes."
abbrev pub size_answer : ℕ → ℕ → Result ℕ Refusal
size_answer L n = answer (size_refusal L n) (payload_size L n)

-- "Pack: 1, 2, 3, 4, 6", for the values vs and an output of `room` bytes
abbrev pub pack_refusal : ℕ → Mode → List ℕ → ℕ → ℕ → Tested
pack_refusal L m vs room n =
    refuse (not (is_lanes L)) BadLanes
    (refuse (ltb 32 n) BadWidth
    (refuse (not (eqb (length vs) (block_size L))) BadBlock
    (refuse (ltb room (payload_size L n)) NoRoom
    (refuse (not (fits (entries m (at vs)) (block_size L) n)) TooWide
    accept))))

-- "Pack takes exactly B values and at least 4Ln bytes of output, writes the first 4Ln and answers 4Ln."
abbrev pub pack_answer : ℕ → Mode → List ℕ → ℕ → ℕ → Result ℕ Refusal
pack_answer L m vs room n = answer (pack_refusal L m vs room n) (payload_size L n)

-- "At width 0 packing writes nothing": the payload is empty then
abbrev pub pack_output : ℕ → Mode → List ℕ → List ℕ → ℕ → List ℕ
pack_output L m vs before n = written (pack_refusal L m vs (length before) n) (packed L n (entries m (at vs))) before

-- "Unpack: 1, 2, 4, 5", for `size` bytes and an output of `room` values
abbrev pub unpack_refusal : ℕ → ℕ → ℕ → ℕ → Tested
unpack_refusal L size room n =
    refuse (not (is_lanes L)) BadLanes
    (refuse (ltb 32 n) BadWidth
    (refuse (ltb room (block_size L)) NoRoom
    (refuse (ltb size (payload_size L n)) CutShort
    accept)))

-- "Unpack takes at least 4Ln bytes and room for at least B values, writes the first B and answers 4Ln."
abbrev pub unpack_answer : ℕ → ℕ → ℕ → ℕ → Result ℕ Refusal
unpack_answer L size room n = answer (unpack_refusal L size room n) (payload_size L n)

-- the values of the payload that the bytes bs start with
unfoldable pub unpacked : ℕ → Mode → List ℕ → ℕ → List ℕ
unpacked L m bs n = table (values m (payload_entry L n bs)) (block_size L)

-- ".. and unpacking still writes B values" at width 0
abbrev pub unpack_output : ℕ → Mode → List ℕ → List ℕ → ℕ → List ℕ
unpack_output L m bs before n = written (unpack_refusal L (length bs) (length before) n) (unpacked L m bs n) before

-- "Width: 1, 3."
abbrev pub width_refusal : ℕ → ℕ → Tested
width_refusal L count =
    refuse (not (is_lanes L)) BadLanes
    (refuse (not (eqb count (block_size L))) BadBlock
    accept)

-- the least width of the block vs
abbrev pub width_answer : ℕ → Mode → List ℕ → Result ℕ Refusal
width_answer L m vs = answer (width_refusal L (length vs)) (least_width (entries m (at vs)) (block_size L))
