-- What was read is the whole input, or is over the limit; and there is room for all that goes out.
use Rattle.std.proofs.Common.{take, refl, sym, subst, ◌∙◌, arith}
use Rattle.std.specs.Result.{IsOk}
use Rattle.programs.specs.Programs.{list_to_text}
use Rattle.programs.proofs.Theorems.{text_short, all_out, out_is}
use Rattle.list_to_text.proofs.converted.Goals as goal

pub unwrap-requires : goal.unwrap-requires
unwrap-requires g c =
    let bytes = take c.read_input-size.result c.read_input-size.new.bytes in
    subst IsOk (sym (all_out (list_to_text bytes) (omega (arith, text_short bytes)) c.list_to_text.ensures.value)) refl

pub returns-clause-all_of_it : goal.returns-clause-all_of_it
returns-clause-all_of_it g c =
    let bytes = take c.read_input-size.result c.read_input-size.new.bytes in
    (bytes, c.read_input-size.ensures.seen _ (omega arith), out_is (list_to_text bytes) c.args.output.now (omega (arith, text_short bytes)) (sym c.unwrap.ensures ∙ c.list_to_text.ensures.value) c.list_to_text.ensures.out_after)
