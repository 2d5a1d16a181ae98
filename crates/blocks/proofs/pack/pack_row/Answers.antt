-- Where the word has room for more than the row, all is held; else it is stored, and what is over of the row is held.
use Rattle.std.proofs.Common.{◌*◌, ◌/◌, arith}
use Rattle.blocks.proofs.Places.{word_room}
use Rattle.blocks.proofs.Packing.{pack_keep, pack_store, pack_word}
use Rattle.blocks.proofs.pack.pack_row.Goals as goal

pub returns-then-width-remaining : goal.returns-then-width-remaining
returns-then-width-remaining c = λ e before is p.
    let few = rw c.count-used.ensures.value at c.count-used.ensures.bounds in
    let width = c.bits-width.ensures.value in
    pack_keep p few.1 c.args.entries is c.requires.narrow (rw width at c.left_shift_32.ensures) c.op_or-out_register.ensures
    (rw width at c.if-width-remaining.true)

-- a word that is full lies in the output
pub store_words-requires : goal.store_words-requires
store_words-requires c =
    let a = c.args in
    let full = rw c.bits-width.ensures.value at c.if-width-remaining.false in
    rw (c.bits-width.ensures.value, c.count-used.ensures.value)
    (omega (arith, c.requires.room.1, word_room a.lanes a.width (a.row * a.width / 32) (pack_word a.width a.row c.requires.room.0 full)))

pub returns : goal.returns
returns c = λ e before is p.
    let few = rw c.count-used.ensures.value at c.count-used.ensures.bounds in
    let width = c.bits-width.ensures.value in
    pack_store p few.1 c.args.entries is c.requires.narrow (rw width at c.left_shift_32.ensures) c.op_or-out_register.ensures
    few.0 (rw width at c.if-width-remaining.false) (rw width at c.bits-width.ensures.bounds) (rw width at c.right_shift_32.ensures)
    (rw (width, c.count-used.ensures.value) at c.store_words.ensures)
