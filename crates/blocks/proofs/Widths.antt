-- Where finding the width is refused: the refusal's number, and "width 0".
use mathlib.Core.Path.{◌≡◌, refl}
use mathlib.Core.Bool.{false}
use Prim.Native.Nat.{ℕ}
use Rattle.std.specs.Prelude.{Ok, Err}
use Rattle.answers.specs.Refusals.{Tested, accepted}
use Rattle.answers.specs.Answers.{answer, number_in, length_in}

pub unmeasured : (k : Tested) (width : ℕ) → accepted k ≡ false → (number_in (answer k width) ≡ number_in k) × (length_in (answer k width) ≡ 0)
unmeasured (Ok t) width h = absurd cc
unmeasured (Err k) width h = (refl, refl)
