-- What was read is the whole input, or is over the limit; and there is room for all that goes out.
use Rattle.std.proofs.Common.{take, refl, sym, subst, ◌∙◌, arith}
use Rattle.std.specs.Result.{IsOk}
use Rattle.programs.specs.Programs.{text_to_list}
use Rattle.programs.proofs.Theorems.{file_short, all_out, out_is}
use Rattle.text_to_list.proofs.converted.Goals as goal

pub unwrap-requires : goal.unwrap-requires
unwrap-requires g c =
    let bytes = take c.read_input-size.result c.read_input-size.new.bytes in
    subst IsOk (sym (all_out (text_to_list bytes) (omega (arith, file_short bytes)) c.text_to_list.ensures.value)) refl

pub returns-clause-all_of_it : goal.returns-clause-all_of_it
returns-clause-all_of_it g c =
    let bytes = take c.read_input-size.result c.read_input-size.new.bytes in
    (bytes, c.read_input-size.ensures.seen _ (omega arith), out_is (text_to_list bytes) c.args.output.now (omega (arith, file_short bytes)) (sym c.unwrap.ensures ∙ c.text_to_list.ensures.value) c.text_to_list.ensures.out_after)
