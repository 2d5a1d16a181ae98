-- What the values are refused for; the room; the header's text and the body.
use Rattle.std.proofs.Common.{◌∙◌, arith}
use Rattle.std.proofs.lemmas.Result.{err_from_is_err_and}
use Rattle.layout.proofs.LaneCounts.{lanes_of}
use Rattle.files.proofs.Filing.{not_measured, able, size_small, no_room, body_written, file_done}
use Rattle.files.proofs.write.Goals as goal

pub returns-in_err-bytes : goal.returns-in_err-bytes
returns-in_err-bytes c =
    let p = err_from_is_err_and c.from_residual.result c.from_residual.ensures.1 in
    let n = not_measured c.args.lanes c.args.mode c.args.values.now c.args.file.now _ c.in_err-bytes.ensures in
    record { value = rw (p.1, p.2) n.0; file_after = n.1 }

pub overflow_cast-lanes : goal.overflow_cast-lanes
overflow_cast-lanes c = omega (arith, lanes_of _ (able c.args.lanes c.args.mode c.args.values.now c.args.file.now _ c.in_ok-bytes.ensures).lanes)

pub overflow_cast-values : goal.overflow_cast-values
overflow_cast-values c = omega (arith, (able c.args.lanes c.args.mode c.args.values.now c.args.file.now _ c.in_ok-bytes.ensures).few)

pub overflow_cast-bytes : goal.overflow_cast-bytes
overflow_cast-bytes c = omega (arith, size_small c.args.lanes c.args.mode c.args.values.now c.args.file.now _ c.in_ok-bytes.ensures)

pub overflow_add-length : goal.overflow_add-length
overflow_add-length c = omega (arith, size_small c.args.lanes c.args.mode c.args.values.now c.args.file.now _ c.in_ok-bytes.ensures)

pub returns-then-file-length : goal.returns-then-file-length
returns-then-file-length c =
    let p = no_room c.args.lanes c.args.mode c.args.values.now c.args.file.now _ c.in_ok-bytes.ensures
    _ _ c.header_text-text.ensures c.len-length.ensures.value c.if-file-length.true in
    record { value = p.0; file_after = p.1 }

pub unwrap-requires : goal.unwrap-requires
unwrap-requires c =
    body_written c.args.lanes c.args.mode c.args.values.now c.args.file.now _ c.in_ok-bytes.ensures
    _ _ c.header_text-text.ensures c.len-length.ensures.value c.if-file-length.false
    _ (c.copy_from_slice.ensures.after ∙ c.as_bytes.ensures.value ∙ c.deref.ensures.0) _ c.write.ensures.value

pub returns : goal.returns
returns c =
    let p = file_done c.args.lanes c.args.mode c.args.values.now c.args.file.now _ c.in_ok-bytes.ensures
    _ _ c.header_text-text.ensures c.len-length.ensures.value c.if-file-length.false
    _ (c.copy_from_slice.ensures.after ∙ c.as_bytes.ensures.value ∙ c.deref.ensures.0) _ c.write.ensures.body_after in
    record { value = p.0; file_after = p.1 }
