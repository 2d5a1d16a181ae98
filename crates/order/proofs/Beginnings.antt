-- Where a list starts: `starting` changes what may come first, and no entry and no value.
use mathlib.Core.Path.{◌≡◌, refl, sym, ap}
use mathlib.Core.Bool.{Bool, true, false, cond}
use mathlib.Core.List.{List, [], ◌∷◌}
use Prim.Native.Nat.{ℕ}
use borrow.Author.Tests.{eqb-true}
use lib.Dec.{eqb}
use Rattle.modes.specs.Entries.{initial_of, first_of}
use Rattle.modes.specs.declared.Initial.{Initial}
use Rattle.modes.specs.declared.Initial.TheVariants.{None, Number}
use Rattle.modes.specs.declared.Mode.{Mode}
use Rattle.modes.specs.declared.Mode.TheVariants.{Plain, Sorted, Strict}
use Rattle.order.specs.Order.{starting_initial, starting, entries_of, values_of}

initial_if : (b : Bool) (f : ℕ) → eqb f 4294967295 ≡ b → initial_of (cond b None (Number f)) ≡ f
initial_if true f e = sym (eqb-true f 4294967295 e)
initial_if false f e = refl

starting_initial_lem : (i : Initial) → initial_of (starting_initial i) ≡ initial_of i
starting_initial_lem None = refl
starting_initial_lem (Number f) = initial_if (eqb f 4294967295) f refl

pub starting_first : (m : Mode) → first_of (starting m) ≡ first_of m
starting_first Plain = refl
starting_first (Sorted f) = refl
starting_first (Strict i) = starting_initial_lem i

strict_entries : (i j : Initial) (vs : List ℕ) → initial_of i ≡ initial_of j → entries_of (Strict i) vs ≡ entries_of (Strict j) vs
unfolding entries_of
strict_entries i j [] e = refl
strict_entries i j (v ∷ vs) e = rw e

pub starting_entries : (m : Mode) (vs : List ℕ) → entries_of (starting m) vs ≡ entries_of m vs
starting_entries Plain vs = refl
starting_entries (Sorted f) vs = refl
starting_entries (Strict i) vs = strict_entries (starting_initial i) i vs (starting_initial_lem i)

strict_values : (i j : Initial) (es : List ℕ) → initial_of i ≡ initial_of j → values_of (Strict i) es ≡ values_of (Strict j) es
unfolding values_of
strict_values i j [] e = refl
strict_values i j (v ∷ vs) e = rw e

pub starting_values : (m : Mode) (es : List ℕ) → values_of (starting m) es ≡ values_of m es
starting_values Plain vs = refl
starting_values (Sorted f) vs = refl
starting_values (Strict i) vs = strict_values (starting_initial i) i vs (starting_initial_lem i)

-- `starting` is done once
number_twice : (b : Bool) (f : ℕ) → eqb f 4294967295 ≡ b → starting_initial (cond b None (Number f)) ≡ cond b None (Number f)
number_twice true f e = refl
number_twice false f e = rw e

pub initial_twice : (i : Initial) → starting_initial (starting_initial i) ≡ starting_initial i
initial_twice None = refl
initial_twice (Number f) = number_twice (eqb f 4294967295) f refl

pub starting_twice : (m : Mode) → starting (starting m) ≡ starting m
starting_twice Plain = refl
starting_twice (Sorted f) = refl
starting_twice (Strict i) = ap (λ (j : Initial). Strict j) (initial_twice i)
