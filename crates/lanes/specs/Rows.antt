-- "One row is one number for each lane." A row is eight numbers; a block of L lanes uses the first L of them.
use Rattle.std.specs.Prelude.{◌≡◌, ℕ, ◌-◌, List}
use Rattle.layout.specs.Layout.{at}

-- the number of the last of L lanes
abbrev pub last_lane : ℕ → List ℕ → ℕ
last_lane L x = at x (L - 1)

-- the row x has the number f l for each lane l
pub record IsRow (x : List ℕ) (f : ℕ → ℕ) : Type 0 where
  pub l0 : at x 0 ≡ f 0
  pub l1 : at x 1 ≡ f 1
  pub l2 : at x 2 ≡ f 2
  pub l3 : at x 3 ≡ f 3
  pub l4 : at x 4 ≡ f 4
  pub l5 : at x 5 ≡ f 5
  pub l6 : at x 6 ≡ f 6
  pub l7 : at x 7 ≡ f 7
