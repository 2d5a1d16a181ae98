-- What the stop of a body says: which refusal it is, and that what was taken is by itself the body of a list, which no greater number of
-- leading blocks is. The contract of `check` (src/lib.rt) says it of what it answers: WhereItStops.
use Rattle.std.specs.Prelude.{◌≡◌, true, List, ℕ, ◌*◌, ◌-◌, ◌≤◌, min, length, take}
use Rattle.layout.specs.Layout.{block_size, is_lanes}
use Rattle.modes.specs.declared.Mode.{Mode}
use Rattle.answers.specs.Refusals.{accepted}
use Rattle.order.specs.Order.{starting, after_all}
use Rattle.bodies.specs.List.{most}
use Rattle.bodies.specs.declared.Stop.{Stop}
use Rattle.bodies.specs.Body.{block_count}
use Rattle.lists.specs.Calls.{read_refusal}
use Rattle.lists.specs.Demand.{Holds}

-- s is the stop of the body bs of count values
pub record Stops (L : ℕ) (m : Mode) (count : ℕ) (bs : List ℕ) (s : Stop) : Type 0 where
  -- it stops at the refusal of reading, with room for the count
  pub refused : (room : ℕ) → count ≤ room → s.outcome ≡ read_refusal L m count bs room
  -- what is taken is blocks x B values, or all there are, and lies within the bytes; none is left of an accepted body, and no byte behind
  -- the last block
  pub fewer : s.blocks ≤ block_count L count
  pub left : s.left ≡ count - s.blocks * block_size L
  pub inside : s.place ≤ length bs
  pub whole : accepted s.outcome ≡ true → (s.left ≡ 0) × (s.place ≡ length bs)
  -- the bytes up to the place are the body of these values, and the mode is the one past them
  pub list : List ℕ
  pub kept : Holds L m (count - s.left) (take s.place bs) list
  pub next : s.mode ≡ after_all (starting m) list
  -- and where reading accepts some first bytes as the body of the first j blocks of values, j is no more than the blocks taken
  pub greatest : (j p room : ℕ) → j ≤ block_count L count → accepted (read_refusal L m (min count (j * block_size L)) (take p bs) room) ≡ true → j ≤ s.blocks

-- for 1, 4 or 8 lanes, and a count that a list may have
abbrev pub WhereItStops : ℕ → Mode → ℕ → List ℕ → Stop → Type 0
WhereItStops L m count bs s = is_lanes L ≡ true → count ≤ most → Stops L m count bs s
