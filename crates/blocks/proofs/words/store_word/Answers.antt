-- A copy of four bytes.
use Rattle.std.proofs.Common.{◌+◌, ◌-◌, ◌∙◌, refl, arith}
use Rattle.std.specs.Int.{w32, to_le_bytes}
use Rattle.std.proofs.lemmas.Slice.{put_mid-paste}
use Rattle.blocks.proofs.Places.{word_pasted}
use Rattle.blocks.proofs.words.store_word.Goals as goal

pub returns : goal.returns
returns c =
    let a = c.args in
    put_mid-paste a.start (a.start + 4 - a.start) a.out.now _ (to_le_bytes w32 a.v) 4 (c.copy_from_slice.ensures.after ∙ c.to_le_bytes.ensures) (omega arith) refl
    ∙ word_pasted a.out.now a.start a.v c.requires
