-- The two ways out of a call, where k is what its tests came to: refused, with memory as it was; or accepted.
use mathlib.Core.Path.{◌≡◌, refl, sym, ◌∙◌, ap}
use mathlib.Core.Bool.{true, false}
use mathlib.Core.List.{List}
use Prim.Native.Nat.{ℕ}
use Rattle.std.specs.Prelude.{Result, Ok, Err, is_ok}
use Rattle.answers.specs.declared.Refusal.{Refusal}
use Rattle.answers.specs.Refusals.{Tested, accept, accepted}
use Rattle.answers.specs.Answers.{answer, length_in, over, written}

pub answered : {A : Type 0} (k : Tested) (size : A) → accepted k ≡ true → answer k size ≡ Ok size
answered (Ok t) size h = refl
answered (Err k) size h = absurd cc

pub overwritten : (k : Tested) (new before : List ℕ) → accepted k ≡ true → written k new before ≡ over new before
overwritten (Ok t) new before h = refl
overwritten (Err k) new before h = absurd cc

-- what a call answers tells what its tests came to
pub refuses : {A : Type 0} (t : Tested) (x : A) {k : Refusal} → answer t x ≡ Err k → t ≡ Err k
refuses (Ok u) x h = absurd cc
refuses (Err j) x h = let e : j ≡ _ = cc in ap Err e

pub passes : {A : Type 0} (t : Tested) (x : A) {y : A} → answer t x ≡ Ok y → (t ≡ accept) × (y ≡ x)
passes (Ok u) x h = (refl, cc)
passes (Err j) x h = absurd cc

-- what one answer holds
pub ok_same : {A : Type 0} {r : Result A Refusal} {x y : A} → r ≡ Ok x → r ≡ Ok y → x ≡ y
ok_same p q = let e : Ok _ ≡ Ok _ = sym p ∙ q in cc

-- an answer is a length exactly where the tests accept
pub ok_is : {A : Type 0} (t : Tested) (x : A) → is_ok (answer t x) ≡ accepted t
ok_is (Ok u) x = refl
ok_is (Err k) x = refl

-- what is refused is answered with length 0, whatever the size would be, and leaves memory as it was
pub refused : (k : Tested) (size : ℕ) → accepted k ≡ false → (answer k size ≡ answer k 0) × (length_in (answer k size) ≡ 0)
refused (Ok t) size h = absurd cc
refused (Err k) size h = (refl, refl)

pub untouched : (k : Tested) (new before : List ℕ) → accepted k ≡ false → before ≡ written k new before
untouched (Ok t) new before h = absurd cc
untouched (Err k) new before h = refl
