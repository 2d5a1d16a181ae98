-- Each byte is two digits of 16, and is put behind those that are there.
use Rattle.std.proofs.Common.{◌≡◌, ◌+◌, ◌*◌, add-one, arith}
use Rattle.layout.specs.Layout.{table}
use Rattle.layout.proofs.Tables.{length_table}
use Rattle.answers.proofs.Fronts.{front_none, front_put}
use Rattle.tables.specs.Tables.{hex_byte}
use Rattle.tables.proofs.decode.Goals as goal

pub loop-i-init : goal.loop-i-init
unfolding table
loop-i-init c = (omega arith, front_none _)

pub loop-i-preserved : goal.loop-i-preserved
unfolding table
loop-i-preserved c =
    let i = c.loop-i.i in
    let byte = hex_byte c.args.hex.now in
    let e : c.digit.result * 16 + c.digit-in-loop-i.result ≡ byte i = rw (c.digit.ensures.value, c.digit-in-loop-i.ensures.value) in
    (omega arith, rw (add-one i, e) (front_put c.loop-i.invariant.1 i (length_table byte i) (byte i) (omega arith)))
