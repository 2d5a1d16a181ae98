-- Reading a body, block by block: which refusal is given, and which list is read. bs are the bytes from a block on, k is how many of
-- its values are the list's, and m is the mode past the values before it.
use Rattle.std.specs.Prelude.{Bool, true, not, ◌&&◌, List, [], ◌++◌, ℕ, zero, suc, ◌+◌, ◌-◌, min, ltb, eqb, length, drop}
use Rattle.layout.specs.Layout.{at, block_size, payload_size, table, payload_entry}
use Rattle.layout.specs.Width.{least_width}
use Rattle.modes.specs.declared.Mode.{Mode}
use Rattle.answers.specs.declared.Refusal.TheVariants.{BadWidth, CutShort, OutOfOrder, NotLeast, BadFill, LeftOver}
use Rattle.answers.specs.Refusals.{Tested, accept, refuse, or_else}
use Rattle.order.specs.Order.{after_all, ordered, values_of}
use Rattle.bodies.specs.Body.{block_count}

-- the width byte, the bytes of the block, its entry i, the list's own entries, and the values that these stand for
abbrev pub width_at : List ℕ → ℕ
width_at bs = at bs 0

abbrev pub size_at : ℕ → List ℕ → ℕ
size_at L bs = 1 + payload_size L (width_at bs)

abbrev pub entry_at : ℕ → List ℕ → ℕ → ℕ
entry_at L bs = payload_entry L (width_at bs) (drop 1 bs)

abbrev pub entries_at : ℕ → ℕ → List ℕ → List ℕ
entries_at L k bs = table (entry_at L bs) k

abbrev pub values_at : ℕ → Mode → ℕ → List ℕ → List ℕ
values_at L m k bs = values_of m (entries_at L k bs)

-- whether e 0, .., e (m - 1) are all 0
unfoldable pub all_zero : (ℕ → ℕ) → ℕ → Bool
all_zero e zero = true
all_zero e (suc m) = all_zero e m && eqb (e m) 0

-- 8: what the values vs that come next are refused for, in reading and in writing alike, and else `next`
abbrev pub refuse_values : Mode → List ℕ → Tested → Tested
refuse_values m vs next = refuse (not (ordered m vs)) OutOfOrder next

-- a block: "5 (no width byte), 2, 5, 10, 9, 8". The entries behind the first k are filling. "The values that filling stands for are not
-- part of the list and are not tested for order."
unfoldable pub block_refusal : ℕ → Mode → ℕ → List ℕ → Tested
block_refusal L m k bs =
    refuse (ltb (length bs) 1) CutShort
    (refuse (ltb 32 (width_at bs)) BadWidth
    (refuse (ltb (length bs) (size_at L bs)) CutShort
    (refuse (not (all_zero (λ i. entry_at L bs (k + i)) (block_size L - k))) BadFill
    (refuse (not (eqb (width_at bs) (least_width (entry_at L bs) (block_size L)))) NotLeast
    (refuse_values m (values_at L m k bs)
    accept)))))

-- the first three of them by themselves: whether a block stands there
unfoldable pub frame_refusal : ℕ → List ℕ → Tested
frame_refusal L bs =
    refuse (ltb (length bs) 1) CutShort
    (refuse (ltb 32 (width_at bs)) BadWidth
    (refuse (ltb (length bs) (size_at L bs)) CutShort
    accept))

-- "at the end 11": what stands behind the last block
abbrev pub end_refusal : List ℕ → Tested
end_refusal bs = refuse (ltb 0 (length bs)) LeftOver accept

-- "then block by block ..": the b blocks that are left, which hold the count values that are left
unfoldable pub refusal_from : ℕ → Mode → ℕ → List ℕ → ℕ → Tested
refusal_from L m count bs zero = end_refusal bs
refusal_from L m count bs (suc b) =
    or_else (block_refusal L m (min (block_size L) count) bs)
    (refusal_from L (after_all m (values_at L m (min (block_size L) count) bs)) (count - block_size L) (drop (size_at L bs) bs) b)

-- a body of count values. m is the mode that the list starts with.
abbrev pub body_refusal : ℕ → Mode → ℕ → List ℕ → Tested
body_refusal L m count bs = refusal_from L m count bs (block_count L count)

-- the list's own entries of b blocks
unfoldable pub entries_from : ℕ → ℕ → List ℕ → ℕ → List ℕ
entries_from L count bs zero = []
entries_from L count bs (suc b) = entries_at L (min (block_size L) count) bs ++ entries_from L (count - block_size L) (drop (size_at L bs) bs) b

-- the list of count values that is read from the body bs
unfoldable pub list_of : ℕ → Mode → ℕ → List ℕ → List ℕ
list_of L m count bs = values_of m (entries_from L count bs (block_count L count))
