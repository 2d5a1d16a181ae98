-- A test that a function answered, and that code guards by its opposite: `if !f(..) { return .. }`.
use mathlib.Core.Path.{◌≡◌, sym, ◌∙◌}
use mathlib.Core.Bool.{Bool, true, false, not}
use borrow.Author.Tests.{not-true, not-false}

-- r is what was answered, and b what it stands for
module _ {r b : Bool} (told : r ≡ b) where
  -- in the guarded branch
  pub denied : not r ≡ true → b ≡ false
  denied h = sym told ∙ not-true r h

  -- past it
  pub granted : not r ≡ false → b ≡ true
  granted h = sym told ∙ not-false r h
