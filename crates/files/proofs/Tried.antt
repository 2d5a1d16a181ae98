-- What is tried, one thing after another: what holds of whatever comes of it.
use mathlib.Core.Path.{◌≡◌, refl}
use mathlib.Core.Bool.{Bool, true, false, cond}
use Rattle.std.specs.Prelude.{Option, Some, None, Err, is_ok, ok_or, option_map, option_and_then, IfSome}
use Rattle.std.specs.Option.{option_or}
use Rattle.std.specs.Result.{result_unwrap_or}

module _ {B : Type 0} (Q : B → Type 0) where
  pub when : (b : Bool) (x y : Option B) → (b ≡ true → IfSome x Q) → (b ≡ false → IfSome y Q) → IfSome (cond b x y) Q
  when true x y a b = a refl
  when false x y a b = b refl

  pub either : (o p : Option B) → IfSome o Q → IfSome p Q → IfSome (option_or o p) Q
  either (Some x) p a b = a
  either None p a b = b

  module _ {A : Type 0} where
    pub mapped : (f : A → B) (o : Option A) → ((x : A) → o ≡ Some x → Q (f x)) → IfSome (option_map f o) Q
    mapped f (Some x) k = k x refl
    mapped f None k = tt

    pub then : (f : A → Option B) (o : Option A) → ((x : A) → o ≡ Some x → IfSome (f x) Q) → IfSome (option_and_then f o) Q
    then f (Some x) k = k x refl
    then f None k = tt

  pub at_some : {o : Option B} {x : B} → IfSome o Q → o ≡ Some x → Q x
  at_some {o} {x} h e = rw e at h

  -- and where a refusal is given instead
  module _ {E : Type 0} (k : E) where
    pub told : (o : Option B) (d : B) → IfSome o Q → is_ok (ok_or o k) ≡ true → Q (result_unwrap_or (ok_or o k) d)
    told (Some x) d h e = h
    told None d h e = absurd cc

pub not_told : {B E : Type 0} (k : E) (o : Option B) → is_ok (ok_or o k) ≡ false → ok_or o k ≡ Err k
not_told k (Some x) e = absurd cc
not_told k None e = refl
