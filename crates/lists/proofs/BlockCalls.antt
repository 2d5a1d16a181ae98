-- The block calls, where a list calls them: none refuses, and this is what they answer and write.
use mathlib.Core.Path.{◌≡◌, sym, ◌∙◌, ap}
use mathlib.Core.Bool.{true}
use mathlib.Core.List.{List}
use Prim.Native.Nat.{ℕ, ◌*◌, ◌-◌, ◌≤◌}
use native.Mathlib.Nat.{mul-le-mul}
use native.Mathlib.Omega.{arith}
use lib.ListN.{length, take, drop, length-drop}
use borrow.Rule.Slice.PartMut.{mid_of}
use Rattle.layout.specs.Layout.{at, block_size, payload_size, table, packed, is_lanes}
use Rattle.answers.specs.Refusals.{accepted}
use Rattle.answers.specs.Answers.{over}
use Rattle.std.specs.Prelude.{Result, Ok}
use Rattle.answers.specs.declared.Refusal.{Refusal}
use Rattle.layout.proofs.LaneCounts.{lanes_of}
use Rattle.answers.proofs.Answers.{answered, overwritten, passes}
use Rattle.answers.proofs.Fronts.{length_over, take_over}
use Rattle.answers.proofs.Parts.{part_is}
use Rattle.layout.proofs.Tables.{length_table}
use Rattle.layout.specs.Width.{fits, least_width}
use Rattle.modes.specs.declared.Mode.{Mode}
use Rattle.modes.specs.declared.Mode.TheVariants.{Plain}
use Rattle.blocks.specs.Calls.{size_refusal, size_answer, pack_refusal, pack_answer, pack_output, unpacked, unpack_refusal, unpack_output, width_refusal, width_answer}
use Rattle.blocks.proofs.Tests.{size_exactly, pack_exactly, unpack_exactly, width_exactly}
use Rattle.order.proofs.Steps.{plain_values}
use Rattle.order.proofs.Blockwise.{values_are}
use Rattle.bodies.specs.Reading.{width_at, entry_at, values_at}
use Rattle.bodies.proofs.Tests.{Framed}

module _ (L : ℕ) (lanes : is_lanes L ≡ true) where
  -- a payload is at most 1,024 bytes
  pub size_small : (n : ℕ) → n ≤ 32 → payload_size L n ≤ 1024
  size_small n h =
      let e : 4 * L ≤ 32 = omega (arith, lanes_of L lanes) in
      mul-le-mul e h

  pub size_is : (n : ℕ) → n ≤ 32 → size_answer L n ≡ Ok (payload_size L n)
  size_is n h = answered (size_refusal L n) (payload_size L n) ((size_exactly L n).1 (record { lanes = lanes; width = h }))

  pub width_is : (vs : List ℕ) → length vs ≡ block_size L → width_answer L Plain vs ≡ Ok (least_width (at vs) (block_size L))
  width_is vs size = answered (width_refusal L (length vs)) (least_width (at vs) (block_size L)) ((width_exactly L (length vs)).1 (record { lanes = lanes; block = size }))

  module _ (vs before : List ℕ) (n : ℕ) (size : length vs ≡ block_size L) (narrow : n ≤ 32) (room : payload_size L n ≤ length before) (fit : fits (at vs) (block_size L) n ≡ true) where
    packable : accepted (pack_refusal L Plain vs (length before) n) ≡ true
    packable = (pack_exactly L Plain vs (length before) n).1 (record { lanes = lanes; width = narrow; block = size; enough = room; fit = fit })

    pub pack_ok : pack_answer L Plain vs (length before) n ≡ Ok (payload_size L n)
    pack_ok = answered (pack_refusal L Plain vs (length before) n) (payload_size L n) packable

    pub pack_is : pack_output L Plain vs before n ≡ over (packed L n (at vs)) before
    pack_is = overwritten (pack_refusal L Plain vs (length before) n) (packed L n (at vs)) before packable

  -- a payload that is there
  module _ (m : Mode) (payload before : List ℕ) (n : ℕ) (narrow : n ≤ 32) (whole : payload_size L n ≤ length payload) (room : block_size L ≤ length before) where
    unpackable : accepted (unpack_refusal L (length payload) (length before) n) ≡ true
    unpackable = (unpack_exactly L (length payload) (length before) n).1 (record { lanes = lanes; width = narrow; enough = room; whole = whole })

    pub unpack_over : unpack_output L m payload before n ≡ over (unpacked L m payload n) before
    unpack_over = overwritten (unpack_refusal L (length payload) (length before) n) (unpacked L m payload n) before unpackable

  -- into a block of the reader's own
  pub own_is : (m : Mode) (payload before : List ℕ) (n : ℕ) → n ≤ 32 → payload_size L n ≤ length payload → length before ≡ 256
      → {own : List ℕ} → own ≡ unpack_output L m payload before n → (length own ≡ 256) × (take (block_size L) own ≡ unpacked L m payload n)
  unfolding unpacked
  own_is m payload before n narrow whole size e =
      let room : block_size L ≤ length before = omega (arith, lanes_of L lanes) in
      let len : length (unpacked L m payload n) ≡ block_size L = length_table _ (block_size L) in
      let is = e ∙ unpack_over m payload before n narrow whole room in
      (ap length is ∙ length_over (unpacked L m payload n) before (omega arith) ∙ size, ap (take (block_size L)) is ∙ take_over (block_size L) (unpacked L m payload n) before len)

-- what is found as the width of a block
pub width_found : (L : ℕ) → is_lanes L ≡ true → (vs : List ℕ) → length vs ≡ block_size L → {r : Result ℕ Refusal} {n : ℕ} → r ≡ width_answer L Plain vs → r ≡ Ok n → n ≡ least_width (at vs) (block_size L)
width_found L lanes vs size is ok = (passes (width_refusal L (length vs)) (least_width (at vs) (block_size L)) (sym is ∙ ok)).1

-- the values of the block that the bytes bs begin with
pub unpacked_at : (L : ℕ) (m : Mode) (bs : List ℕ) → unpacked L m (drop 1 bs) (width_at bs) ≡ values_at L m (block_size L) bs
unfolding unpacked
unpacked_at L m bs = sym (values_are m (entry_at L bs) (block_size L))

-- in plain mode the entries themselves
pub unpacked_plain : (L : ℕ) (bs : List ℕ) → unpacked L Plain (drop 1 bs) (width_at bs) ≡ table (entry_at L bs) (block_size L)
unpacked_plain L bs = unpacked_at L Plain bs ∙ plain_values (table (entry_at L bs) (block_size L))

-- a block of the reader's own, unpacked from the part behind the width byte
pub own_plain : (L : ℕ) (bs own : List ℕ) {w : ℕ} → w ≡ width_at bs → take (block_size L) own ≡ unpacked L Plain (mid_of 1 (length bs - 1) bs) w
    → take (block_size L) own ≡ table (entry_at L bs) (block_size L)
own_plain L bs own width e = e ∙ rw (part_is 1 bs, width) (unpacked_plain L bs)

-- a full block, into an output that has room for it
pub block_over : (L : ℕ) → is_lanes L ≡ true → (m : Mode) (bs before : List ℕ) → Framed L bs → block_size L ≤ length before
    → unpack_output L m (drop 1 bs) before (width_at bs) ≡ over (values_at L m (block_size L) bs) before
block_over L lanes m bs before f room =
    unpack_over L lanes m (drop 1 bs) before (width_at bs) f.narrow (rw length-drop (omega (arith, f.whole))) room ∙ ap (λ (t : List ℕ). over t before) (unpacked_at L m bs)

-- a block of the reader's own, likewise
pub own_values : (L : ℕ) (m : Mode) (bs own : List ℕ) {w : ℕ} → w ≡ width_at bs → take (block_size L) own ≡ unpacked L m (mid_of 1 (length bs - 1) bs) w
    → take (block_size L) own ≡ values_at L m (block_size L) bs
own_values L m bs own width e = e ∙ rw (part_is 1 bs, width) (unpacked_at L m bs)
