-- A refusal comes back from its number.
use mathlib.Core.Path.{◌≡◌, refl, sym, ◌∙◌, ap}
use mathlib.Core.Bool.{cond}
use Prim.Native.Nat.{ℕ}
use lib.Dec.{eqb}
use Rattle.std.specs.Prelude.{Ok, Err}
use Rattle.answers.specs.declared.Refusal.TheVariants.{BadLanes, BadWidth, BadBlock, NoRoom, CutShort, TooWide, TooMany, OutOfOrder, NotLeast, BadFill, LeftOver, BadHeader}
use Rattle.answers.specs.Refusals.{Tested, accept}
use Rattle.answers.specs.Answers.{number_in}
use Rattle.answers.specs.Claims.{NumbersApart, NumberAndLength}

outcome_of : ℕ → Tested
outcome_of n =
    cond (eqb n 0) accept
    (cond (eqb n 1) (Err BadLanes)
    (cond (eqb n 2) (Err BadWidth)
    (cond (eqb n 3) (Err BadBlock)
    (cond (eqb n 4) (Err NoRoom)
    (cond (eqb n 5) (Err CutShort)
    (cond (eqb n 6) (Err TooWide)
    (cond (eqb n 7) (Err TooMany)
    (cond (eqb n 8) (Err OutOfOrder)
    (cond (eqb n 9) (Err NotLeast)
    (cond (eqb n 10) (Err BadFill)
    (cond (eqb n 11) (Err LeftOver)
    (Err BadHeader))))))))))))

number_back : (k : Tested) → outcome_of (number_in k) ≡ k
unfolding outcome_of
number_back (Ok t) = refl
number_back (Err BadLanes) = refl
number_back (Err BadWidth) = refl
number_back (Err BadBlock) = refl
number_back (Err NoRoom) = refl
number_back (Err CutShort) = refl
number_back (Err TooWide) = refl
number_back (Err TooMany) = refl
number_back (Err OutOfOrder) = refl
number_back (Err NotLeast) = refl
number_back (Err BadFill) = refl
number_back (Err LeftOver) = refl
number_back (Err BadHeader) = refl

pub numbers_apart : NumbersApart
numbers_apart k l e = sym (number_back k) ∙ ap outcome_of e ∙ number_back l

pub number_and_length : NumberAndLength
number_and_length (Ok t) size = (refl, refl)
number_and_length (Err k) size = (refl, refl)
