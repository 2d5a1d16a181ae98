-- Rounded up is the quotient of as much more as rounds up.
use Rattle.std.proofs.Common.{ℕ, ◌+◌, ◌/◌, ◌%◌, ◌<◌, min, sym, arith}
use Rattle.std.proofs.lemmas.Grind.{div_ceil_times}
use Rattle.std.proofs.Math.Nat.{div-eq_of_lt-le}
use Rattle.layout.proofs.Products.{one_more}
use Rattle.layout.specs.Layout.{block_size}
use Rattle.bodies.specs.Body.{block_count}
use Rattle.lists.proofs.framing.block_count.Goals as goal

pub returns : goal.returns
unfolding block_count
returns c =
    let n : ℕ = c.args.count in
    let b : ℕ = block_size c.args.lanes in
    let q : ℕ = n / b + min 1 (n % b) in
    let some : 0 < b = rw c.block_size.ensures.value at c.block_size.ensures.bounds.0 in
    let t = div_ceil_times n b some in
    rw (c.div_ceil.ensures, c.block_size.ensures.value) (sym (div-eq_of_lt-le b (omega (arith, t.1)) (omega (arith, t.0, one_more q b))))
