-- The body of a list: "Lists" of document 01.
use Rattle.std.specs.Prelude.{List, [], ◌∷◌, ◌++◌, ℕ, zero, suc, ◌+◌, ◌-◌, ◌/◌, length, get_or, take, drop}
use Rattle.layout.specs.Layout.{block_size, packed}
use Rattle.layout.specs.Width.{least_width}
use Rattle.modes.specs.declared.Mode.{Mode}
use Rattle.order.specs.Order.{entries_of}

-- entry k of a block. "The last block is filled up with entries of 0."
abbrev pub filled : List ℕ → ℕ → ℕ
filled es k = get_or es k 0

-- the least width of the block of entries es
abbrev pub width_of : ℕ → List ℕ → ℕ
width_of L es = least_width (filled es) (block_size L)

-- "Each is one byte, the least width of that block, then its payload."
unfoldable pub block : ℕ → List ℕ → List ℕ
block L es = width_of L es ∷ packed L (width_of L es) (filled es)

-- ceil(count / B)
unfoldable pub block_count : ℕ → ℕ → ℕ
block_count L count = (count + (block_size L - 1)) / block_size L

-- the entries es in b blocks one after another
unfoldable pub blocks_of : ℕ → List ℕ → ℕ → List ℕ
blocks_of L es zero = []
blocks_of L es (suc b) = block L (take (block_size L) es) ++ blocks_of L (drop (block_size L) es) b

-- "A body holds ceil(count / B) blocks one after another": the body of the list vs
unfoldable pub body_of : ℕ → Mode → List ℕ → List ℕ
body_of L m vs = blocks_of L (entries_of m vs) (block_count L (length vs))
