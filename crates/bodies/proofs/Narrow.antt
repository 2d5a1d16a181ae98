-- In sorted and strict mode the entries of a list come to less than 2 to the power 32 in all, so at most one block has width 32.
use mathlib.Core.Path.{◌≡◌, sym, ◌∙◌, ap}
use mathlib.Core.Bool.{true}
use mathlib.Core.List.{List, [], ◌∷◌, ◌++◌}
use Prim.Native.Nat.{ℕ, zero, suc, ◌+◌, ◌*◌, ◌^◌, ◌≤◌, ◌<◌}
use native.Mathlib.Omega.{arith}
use native.Mathlib.Decide.{dec_lt}
use borrow.Author.Tests.{leb-true, ltb-true}
use lib.Dec.{leb, ltb}
use lib.ListN.{length, take, drop, get_or, length-append, take-append-drop}
use Rattle.layout.specs.Layout.{Below, block_size, is_lanes}
use Rattle.layout.proofs.LaneCounts.{for_lanes}
use Rattle.layout.proofs.Widths.{and_both, fits_of, fits_exactly, width_most}
use Rattle.modes.specs.declared.Initial.{Initial}
use Rattle.modes.specs.declared.Initial.TheVariants.{None, Number}
use Rattle.modes.specs.declared.Mode.{Mode}
use Rattle.modes.specs.declared.Mode.TheVariants.{Sorted, Strict}
use Rattle.modes.specs.Entries.{first_of}
use Rattle.order.specs.Order.{ordered, entries_of}
use Rattle.bodies.specs.List.{most}
use Rattle.bodies.specs.Body.{filled, width_of, block_count, blocks_of, body_of}
use Rattle.bodies.proofs.Sizes.{block_long}

-- all of the entries together
unfoldable pub total : List ℕ → ℕ
total [] = 0
total (e ∷ es) = e + total es

total_append : (es fs : List ℕ) → total (es ++ fs) ≡ total es + total fs
unfolding total
total_append [] fs = omega arith
total_append (e ∷ es) fs = omega (arith, total_append es fs)

total_parts : (n : ℕ) (es : List ℕ) → total es ≡ total (take n es) + total (drop n es)
total_parts n es = ap total (sym (take-append-drop n es)) ∙ total_append (take n es) (drop n es)

one_of : (es : List ℕ) (k : ℕ) → get_or es k 0 ≤ total es
unfolding total
one_of [] k = omega arith
one_of (e ∷ es) zero = omega arith
one_of (e ∷ es) (suc k) = omega (arith, one_of es k)

-- blocks

narrow_width : (L : ℕ) (es : List ℕ) → total es < 2 ^ 31 → width_of L es ≤ 31
narrow_width L es h =
    (fits_exactly (filled es) (block_size L) 31 (λ k lt. omega (arith, one_of es k))).0 (fits_of (filled es) (block_size L) 31 (λ k lt. omega (arith, one_of es k)))

narrow_blocks : (L : ℕ) (es : List ℕ) (b : ℕ) → total es < 2 ^ 31 → length (blocks_of L es b) ≤ b * (1 + 4 * L * 31)
unfolding blocks_of
narrow_blocks L es zero h = omega arith
narrow_blocks L es (suc b) h =
    let n : ℕ = block_size L in
    let p = total_parts n es in
    rw length-append (omega (arith, block_long L 31 (take n es) (narrow_width L (take n es) (omega arith)), narrow_blocks L (drop n es) b (omega arith)))

-- so the blocks are together no longer than if one had width 32 and the others at most 31
one_wide_block : (L : ℕ) (es : List ℕ) (b : ℕ) → total es < 2 ^ 32 → length (blocks_of L es b) ≤ b * (1 + 4 * L * 31) + 4 * L
unfolding blocks_of
one_wide_block L es zero h = omega arith
one_wide_block L es (suc b) h =
    go (one_wide_block L (drop (block_size L) es) b (omega (arith, total_parts (block_size L) es))) (dec_lt (total (take (block_size L) es)) (2 ^ 31))
  where
    n : ℕ
    n = block_size L

    go : length (blocks_of L (drop (block_size L) es) b) ≤ b * (1 + 4 * L * 31) + 4 * L → Dec (total (take (block_size L) es) < 2 ^ 31) → length (blocks_of L es (suc b)) ≤ suc b * (1 + 4 * L * 31) + 4 * L
    go rest (yes less) = rw length-append (omega (arith, block_long L 31 (take n es) (narrow_width L (take n es) less)))
    go rest (no more) = rw length-append (omega (arith, block_long L 32 (take n es) (width_most (filled (take n es)) n), narrow_blocks L (drop n es) b (omega (arith, total_parts n es))))

-- entries in order

-- what may come next, as a sum: nothing wraps
pub sorted_total : (f : ℕ) (vs : List ℕ) → f < 2 ^ 32 → Below (2 ^ 32) vs → ordered (Sorted f) vs ≡ true → f + total (entries_of (Sorted f) vs) < 2 ^ 32
unfolding total ordered entries_of
sorted_total f [] small below o = omega arith
sorted_total f (v ∷ vs) small below o =
    let p = and_both (leb f v) _ o in
    let le : f ≤ v = leb-true f v p.0 in
    let vsmall : v < 2 ^ 32 = below 0 in
    let rest = sorted_total v vs vsmall (λ k. below (suc k)) p.1 in
    omega arith

strict_total : (f : ℕ) (vs : List ℕ) → f < 2 ^ 32 → Below (2 ^ 32) vs → ordered (Strict (Number f)) vs ≡ true → f + total (entries_of (Strict (Number f)) vs) < 2 ^ 32
unfolding total ordered entries_of
strict_total f [] small below o = omega arith
strict_total f (v ∷ vs) small below o =
    let p = and_both (ltb f v) _ o in
    let lt : f < v = ltb-true f v p.0 in
    let vsmall : v < 2 ^ 32 = below 0 in
    let rest = strict_total v vs vsmall (λ k. below (suc k)) p.1 in
    omega arith

-- with none the first entry is the first value
none_total : (vs : List ℕ) → Below (2 ^ 32) vs → ordered (Strict None) vs ≡ true → total (entries_of (Strict None) vs) < 2 ^ 32
unfolding total ordered entries_of
none_total [] below o = omega arith
none_total (v ∷ vs) below o =
    let small : v < 2 ^ 32 = below 0 in
    let rest = strict_total v vs small (λ k. below (suc k)) o in
    omega arith

pub strict_any : (i : Initial) (vs : List ℕ) → first_of (Strict i) < 2 ^ 32 → Below (2 ^ 32) vs → ordered (Strict i) vs ≡ true → total (entries_of (Strict i) vs) < 2 ^ 32
strict_any None vs small below o = none_total vs below o
strict_any (Number f) vs small below o = omega (arith, strict_total f vs small below o)

-- 128 blocks with 1 lane, 32 with 4, 16 with 8
pub narrow_body : (L : ℕ) → is_lanes L ≡ true → (m : Mode) (vs : List ℕ) → length vs ≤ most → total (entries_of m vs) < 2 ^ 32 → length (body_of L m vs) ≤ 16004
unfolding body_of block_count
narrow_body =
    for_lanes (λ L. (m : Mode) (vs : List ℕ) → length vs ≤ most → total (entries_of m vs) < 2 ^ 32 → length (body_of L m vs) ≤ 16004)
    (λ m vs few h. omega (arith, one_wide_block 1 (entries_of m vs) (block_count 1 (length vs)) h))
    (λ m vs few h. omega (arith, one_wide_block 4 (entries_of m vs) (block_count 4 (length vs)) h))
    (λ m vs few h. omega (arith, one_wide_block 8 (entries_of m vs) (block_count 8 (length vs)) h))
