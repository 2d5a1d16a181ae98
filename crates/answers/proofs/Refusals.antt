-- Refusals one after another: what is known where none is given, and which may be given.
use mathlib.Core.Path.{◌≡◌, refl}
use mathlib.Core.Bool.{Bool, true, false}
use Rattle.std.specs.Prelude.{Ok, Err, is_err}
use Rattle.answers.specs.declared.Refusal.{Refusal}
use Rattle.answers.specs.Refusals.{Tested, accept, accepted, refuse, or_else}

pub apart : true ≡ false → ⊥
apart e = cc

-- a refusal that is not given: its test failed, and what follows accepts
pub passed : (t : Bool) (k : Refusal) (next : Tested) → accepted (refuse t k next) ≡ true → (t ≡ false) × (accepted next ≡ true)
passed true k next g = absurd cc
passed false k next g = (refl, g)

-- only `accept` is accepted
pub accepted_is : (k : Tested) → accepted k ≡ true → k ≡ accept
accepted_is (Ok t) h = refl
accepted_is (Err k) h = absurd cc

-- one refusal and then another: both accept
pub both : (k next : Tested) → accepted (or_else k next) ≡ true → (accepted k ≡ true) × (accepted next ≡ true)
both (Ok t) next h = (refl, h)
both (Err k) next h = absurd cc

pub first_stops : (k next : Tested) → accepted k ≡ false → or_else k next ≡ k
first_stops (Ok t) next h = absurd cc
first_stops (Err k) next h = refl

pub first_passes : (k next : Tested) → accepted k ≡ true → or_else k next ≡ next
first_passes (Ok t) next h = refl
first_passes (Err k) next h = absurd cc

-- what holds of each refusal holds of the one that is given
module _ (P : Tested → Type 0) where
  pub refused : (test : Bool) (k : Refusal) (next : Tested) → P (Err k) → P next → P (refuse test k next)
  refused true k next a b = a
  refused false k next a b = b

  pub either : (k next : Tested) → P k → P next → P (or_else k next)
  either (Ok t) next a b = b
  either (Err k) next a b = a

-- what `is_err` tells of an outcome
pub erred : (k : Tested) → is_err k ≡ true → accepted k ≡ false
erred (Ok t) h = absurd cc
erred (Err k) h = refl

pub not_erred : (k : Tested) → is_err k ≡ false → accepted k ≡ true
not_erred (Ok t) h = refl
not_erred (Err k) h = absurd cc
