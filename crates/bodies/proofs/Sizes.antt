-- How long a body is at most, and how long a list is that is read.
use mathlib.Core.Path.{◌≡◌, ◌∙◌}
use mathlib.Core.Bool.{true}
use mathlib.Core.List.{List}
use Prim.Native.Nat.{ℕ, zero, suc, ◌+◌, ◌*◌, ◌-◌, ◌≤◌, ◌<◌, min}
use native.Mathlib.Nat.{mul-le-mul, zero-mul, sub-add-min_cancel, min_comm}
use native.Mathlib.Omega.{arith}
use lib.ListN.{length, take, drop, length-append}
use Rattle.layout.specs.Layout.{block_size, is_lanes}
use Rattle.layout.proofs.Tables.{length_packed, length_table}
use Rattle.layout.proofs.Widths.{width_most}
use Rattle.modes.specs.declared.Mode.{Mode}
use Rattle.layout.proofs.LaneCounts.{for_lanes}
use Rattle.order.specs.Order.{entries_of}
use Rattle.bodies.specs.List.{most}
use Rattle.order.proofs.Steps.{length_values}
use Rattle.bodies.specs.Body.{filled, width_of, block, block_count, blocks_of, body_of}
use Rattle.bodies.specs.Reading.{size_at, entry_at, entries_at, entries_from, list_of}
use Rattle.bodies.proofs.Whole.{suc_times, blocks_enough}

-- a block of width w at most
pub block_long : (L w : ℕ) (es : List ℕ) → width_of L es ≤ w → length (block L es) ≤ 1 + 4 * L * w
unfolding block
block_long L w es h =
    let narrow : 4 * L * width_of L es ≤ 4 * L * w = mul-le-mul {n₁ = 4 * L} {n₂ = 4 * L} (omega arith) h in
    rw length_packed (omega arith)

block_short : (L : ℕ) (es : List ℕ) → length (block L es) ≤ 1 + 4 * L * 32
block_short L es = block_long L 32 es (width_most (filled es) (block_size L))

blocks_short : (L : ℕ) (es : List ℕ) (b : ℕ) → length (blocks_of L es b) ≤ b * (1 + 128 * L)
unfolding blocks_of
blocks_short L es zero = omega arith
blocks_short L es (suc b) =
    let n : ℕ = block_size L in
    rw length-append (omega (arith, block_short L (take n es), blocks_short L (drop n es) b))

-- 128 blocks of 129 bytes with 1 lane, 32 of 513 with 4, 16 of 1,025 with 8
pub body_short : (L : ℕ) → is_lanes L ≡ true → (m : Mode) (vs : List ℕ) → length vs ≤ most → length (body_of L m vs) ≤ 16512
unfolding body_of block_count
body_short =
    for_lanes (λ L. (m : Mode) (vs : List ℕ) → length vs ≤ most → length (body_of L m vs) ≤ 16512)
    (λ m vs few. omega (arith, blocks_short 1 (entries_of m vs) (block_count 1 (length vs))))
    (λ m vs few. omega (arith, blocks_short 4 (entries_of m vs) (block_count 4 (length vs))))
    (λ m vs few. omega (arith, blocks_short 8 (entries_of m vs) (block_count 8 (length vs))))

length_from : (L count : ℕ) (bs : List ℕ) (b : ℕ) → count ≤ b * block_size L → length (entries_from L count bs b) ≡ count
unfolding entries_from
length_from L count bs zero h = omega (arith, zero-mul (block_size L))
length_from L count bs (suc b) h =
    let k : ℕ = min (block_size L) count in
    let ih = length_from L (count - block_size L) (drop (size_at L bs) bs) b (omega (arith, suc_times b (block_size L))) in
    length-append (entries_at L k bs) (entries_from L (count - block_size L) (drop (size_at L bs) bs) b)
    ∙ rw (length_table (entry_at L bs) k, ih) (omega (arith, sub-add-min_cancel count (block_size L), min_comm count (block_size L)))

-- whatever the bytes are
pub length_list : (L : ℕ) → 0 < L → (m : Mode) (count : ℕ) (bs : List ℕ) → length (list_of L m count bs) ≡ count
unfolding list_of
length_list L pos m count bs = length_values m (entries_from L count bs (block_count L count)) ∙ length_from L count bs (block_count L count) (blocks_enough L count pos)
