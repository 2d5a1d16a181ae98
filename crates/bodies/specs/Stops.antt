-- Where reading stops, block by block: beside the refusal, what was taken before it. bs are the bytes from a block on, count is how many
-- values are left, and m is the mode past the values before them, as in Reading.
use Rattle.std.specs.Prelude.{cond, List, ℕ, zero, suc, ◌+◌, ◌-◌, min, drop}
use Rattle.layout.specs.Layout.{block_size}
use Rattle.modes.specs.declared.Mode.{Mode}
use Rattle.answers.specs.Refusals.{Tested, accept, accepted}
use Rattle.order.specs.Order.{after_all}
use Rattle.bodies.specs.declared.Stop.{Stop}
use Rattle.bodies.specs.Body.{block_count}
use Rattle.bodies.specs.Reading.{size_at, values_at, block_refusal, end_refusal}

-- no block is taken
abbrev pub nothing : Tested → ℕ → Mode → Stop
nothing k count m = record { outcome = k; blocks = 0; place = 0; left = count; mode = m }

-- none where k refuses, and else what s takes
abbrev pub or_stop : Tested → ℕ → Mode → Stop → Stop
or_stop k count m s = cond (accepted k) s (nothing k count m)

-- a block, of which min(count, B) values are the list's
unfoldable pub block_stop : ℕ → Mode → ℕ → List ℕ → Stop
block_stop L m count bs =
    or_stop (block_refusal L m (min (block_size L) count) bs) count m
    (record { outcome = accept; blocks = 1; place = size_at L bs; left = count - block_size L; mode = after_all m (values_at L m (min (block_size L) count) bs) })

-- what s takes, and what t takes from there on
abbrev pub past : Stop → Stop → Stop
past s t = record { outcome = t.outcome; blocks = s.blocks + t.blocks; place = s.place + t.place; left = t.left; mode = t.mode }

-- "block by block ..; at the end 11": the b blocks that are left
unfoldable pub stop_from : ℕ → Mode → ℕ → List ℕ → ℕ → Stop
stop_from L m count bs zero = nothing (end_refusal bs) count m
stop_from L m count bs (suc b) =
    let s : Stop = block_stop L m count bs in
    cond (accepted s.outcome) (past s (stop_from L s.mode s.left (drop s.place bs) b)) s

-- a body of count values. m is the mode that the list starts with.
abbrev pub body_stop : ℕ → Mode → ℕ → List ℕ → Stop
body_stop L m count bs = stop_from L m count bs (block_count L count)
