-- What a list is: "Lists" of document 01.
use Rattle.std.specs.Prelude.{◌≡◌, true, List, ℕ, ◌^◌, ◌≤◌, length}
use Rattle.layout.specs.Layout.{Below}
use Rattle.modes.specs.declared.Mode.{Mode}
use Rattle.order.specs.Order.{starting, ordered}

-- the most values of a list: "A list has 0 to 4,096 values."
abbrev pub most : ℕ
most = 4096

-- vs is a list of count values, at most 4,096, in the mode's order
pub record IsList (m : Mode) (count : ℕ) (vs : List ℕ) : Type 0 where
  pub size : length vs ≡ count
  pub few : count ≤ most
  -- "A value is 0 to 4,294,967,295."
  pub small : Below (2 ^ 32) vs
  -- place by place: InOrder (order/specs/Claims, OrderTells)
  pub order : ordered (starting m) vs ≡ true
