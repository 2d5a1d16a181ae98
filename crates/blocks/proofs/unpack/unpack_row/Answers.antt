-- Where the bits that are left reach, the row is their low bits; else the next word of each lane comes in above them.
use Rattle.std.proofs.Common.{◌≡◌, ℕ, ◌+◌, ◌*◌, ◌/◌, ◌%◌, ◌≤◌, ◌<◌, min, length, refl, arith, rules}
use Rattle.layout.specs.Layout.{at, word_at}
use Rattle.blocks.specs.kernel.Registers.{bits_left}
use Rattle.blocks.proofs.Places.{word_room}
use Rattle.blocks.proofs.Unpacking.{reach_row, reach_held, more_row, more_held, more_word}
use Rattle.blocks.proofs.unpack.unpack_row.Goals as goal

-- the word after those read
word_of : (x : ℕ) {w : ℕ} → w ≡ x / 32 + min 1 (x % 32) → w ≡ (x + 31) / 32
word_of x e = omega arith

pub returns-then-width-left-clause-row_of : goal.returns-then-width-left-clause-row_of
returns-then-width-left-clause-row_of c =
    let few = rw c.count-used.ensures.value at c.count-used.ensures.bounds in
    reach_row _ _ _ _ c.requires.holds_bits few.1 (omega (arith, rw (word_of _ c.div_ceil-word.ensures, c.bits-width.ensures.value) at c.if-width-left.true)) c.mask.ensures c.set1-ones.ensures c.op_and.ensures

pub returns-then-width-left-clause-rest_holds : goal.returns-then-width-left-clause-rest_holds
returns-then-width-left-clause-rest_holds c =
    let few = rw c.count-used.ensures.value at c.count-used.ensures.bounds in
    let width = c.bits-width.ensures.value in
    let reach : c.args.width ≤ bits_left c.args.width c.args.row = omega (arith, rw (word_of _ c.div_ceil-word.ensures, width) at c.if-width-left.true) in
    reach_held _ _ _ _ c.requires.holds_bits few.1 reach (rw width at c.right_shift_32.ensures)

-- a word that is read lies in the bytes
room : (lanes width row : ℕ) {size : ℕ} → row < 32 → bits_left width row < width → 4 * lanes * width ≤ size
    → (l : ℕ) → l < lanes → 4 * ((row * width + 31) / 32 * lanes + l) + 4 ≤ size
room lanes width row lt short fits l h = omega (arith, word_room lanes width ((row * width + 31) / 32) (more_word width row lt short))

pub row_of-in_register-requires : goal.row_of-in_register-requires
row_of-in_register-requires c = λ l h.
    let a = c.args in
    let width = c.bits-width.ensures.value in
    let short = rw (word_of _ c.div_ceil-word.ensures, width) at c.if-width-left.false in
    let e : c.div_ceil-word.result * c.count-used.result ≡ (a.row * a.width + 31) / 32 * a.lanes = rw (word_of _ c.div_ceil-word.ensures, width, c.count-used.ensures.value) refl in
    let inside : 4 * (c.div_ceil-word.result * c.count-used.result + l) + 4 ≤ length a.bytes.now = rw e (room a.lanes a.width a.row c.requires.room.0 short c.requires.room.1 l h) in
    search rules

-- what is loaded is the next word of each lane
loaded : (c : goal.After-right_shift_32-2) → (l : ℕ) → l < c.args.lanes
    → at c.row_of-in_register.result l ≡ word_at c.args.bytes.now (4 * ((c.args.row * c.args.width + 31) / 32 * c.args.lanes + l))
loaded c =
    let read : (l : ℕ) → l < c.args.lanes → at c.row_of-in_register.result l ≡ word_at c.args.bytes.now (4 * (c.div_ceil-word.result * c.count-used.result + l)) =
    λ l h. let is = c.row_of-in_register.ensures l h in search rules in
    rw (word_of _ c.div_ceil-word.ensures, c.bits-width.ensures.value, c.count-used.ensures.value) at read

pub returns-clause-row_of : goal.returns-clause-row_of
returns-clause-row_of c =
    let few = rw c.count-used.ensures.value at c.count-used.ensures.bounds in
    let width = c.bits-width.ensures.value in
    let word = word_of _ c.div_ceil-word.ensures in
    more_row _ _ _ _ c.requires.holds_bits few.1 (rw (word, width) at c.if-width-left.false) (rw width at c.bits-width.ensures.bounds)
    (λ i. (c.type_inv.bytes i).fits) c.row_of-in_register.result (loaded c)
    (rw (word, width) at c.left_shift_32.ensures) c.op_or.ensures c.mask.ensures c.set1-ones.ensures c.op_and-entries.ensures

pub returns-clause-rest_holds : goal.returns-clause-rest_holds
returns-clause-rest_holds c =
    let few = rw c.count-used.ensures.value at c.count-used.ensures.bounds in
    let width = c.bits-width.ensures.value in
    let word = word_of _ c.div_ceil-word.ensures in
    more_held _ _ _ _ c.requires.holds_bits few.1 (rw (word, width) at c.if-width-left.false) (rw width at c.bits-width.ensures.bounds)
    (λ i. (c.type_inv.bytes i).fits) c.row_of-in_register.result (loaded c) (rw (word, width) at c.right_shift_32-2.ensures)
