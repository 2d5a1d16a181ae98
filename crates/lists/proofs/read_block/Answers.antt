-- What is not refused can be read: the block is there, with room for its values.
use Rattle.std.proofs.Common.{◌≡◌, min, refl, sym, ◌∙◌, ap, length, arith}
use Rattle.std.proofs.lemmas.Result.{err_from_is_err_and}
use Rattle.layout.specs.Layout.{block_size}
use Rattle.answers.specs.Refusals.{accepted}
use Rattle.bodies.specs.declared.Stop.{Stop}
use Rattle.bodies.specs.Reading.{block_refusal}
use Rattle.bodies.proofs.Stops.{block_refusal_lem}
use Rattle.bodies.proofs.Tests.{frames, block_passed}
use Rattle.lists.proofs.Accepts.{lanes_taken, read_block_stops}
use Rattle.lists.proofs.read_block.Goals as goal

pub returns-in_err-take_block : goal.returns-in_err-take_block
returns-in_err-take_block c =
    let a = c.args in
    let l = lanes_taken a.lanes c.new.ensures c.in_ok-lanes.was in
    let e = err_from_is_err_and c.from_residual-in_err-take_block.result c.from_residual-in_err-take_block.ensures.1 in
    let own : c.min-k.result ≡ min (block_size a.lanes) a.count = rw (c.block_size.ensures.value, l.1) at c.min-k.ensures in
    let o : c.take_block.result.outcome ≡ block_refusal a.lanes a.mode (min (block_size a.lanes) a.count) a.bytes.now =
    ap (λ (s : Stop). s.outcome) (rw l.1 at c.take_block.ensures) ∙ block_refusal_lem a.lanes a.mode a.count a.bytes.now in
    let k = read_block_stops a.lanes a.mode a.count a.bytes.now (length a.values.now) l.0 (omega (arith, own, c.if-values-k.false)) (sym o ∙ c.in_err-take_block.was) in
    record { value = rw (e.1, e.2, k) refl; values_after = rw k refl }

pub fetch_last-requires : goal.fetch_last-requires
fetch_last-requires c =
    let a = c.args in
    let l = lanes_taken a.lanes c.new.ensures c.in_ok-lanes.was in
    let own : c.min-k.result ≡ min (block_size a.lanes) a.count = rw (c.block_size.ensures.value, l.1) at c.min-k.ensures in
    let o : c.take_block.result.outcome ≡ block_refusal a.lanes a.mode (min (block_size a.lanes) a.count) a.bytes.now =
    ap (λ (s : Stop). s.outcome) (rw l.1 at c.take_block.ensures) ∙ block_refusal_lem a.lanes a.mode a.count a.bytes.now in
    let p = block_passed a.lanes a.mode (min (block_size a.lanes) a.count) a.bytes.now (ap accepted (sym o ∙ c.in_ok-take_block.was)) in
    rw l.1 (frames a.lanes a.bytes.now p.frame, omega (arith, own), omega (arith, c.if-values-k.false))

pub returns : goal.returns
returns c =
    let a = c.args in
    let l = lanes_taken a.lanes c.new.ensures c.in_ok-lanes.was in
    let own : c.min-k.result ≡ min (block_size a.lanes) a.count = rw (c.block_size.ensures.value, l.1) at c.min-k.ensures in
    let o : c.take_block.result.outcome ≡ block_refusal a.lanes a.mode (min (block_size a.lanes) a.count) a.bytes.now =
    ap (λ (s : Stop). s.outcome) (rw l.1 at c.take_block.ensures) ∙ block_refusal_lem a.lanes a.mode a.count a.bytes.now in
    let k = read_block_stops a.lanes a.mode a.count a.bytes.now (length a.values.now) l.0 (omega (arith, own, c.if-values-k.false)) (sym o ∙ c.in_ok-take_block.was) in
    record { value = rw (k, own) refl; values_after = rw k (rw (l.1, own) at c.fetch_last.ensures) }
