-- The claim of specs/Claims: one value after another.
use mathlib.Core.Path.{◌≡◌, refl}
use mathlib.Core.Bool.{true}
use mathlib.Core.List.{List, [], ◌∷◌}
use Prim.Native.Nat.{ℕ, zero, suc, ◌<◌}
use native.Mathlib.Omega.{arith}
use borrow.Author.Tests.{le-leb, leb-true, lt-ltb, ltb-true}
use lib.ListN.{length}
use Rattle.layout.specs.Layout.{at}
use Rattle.layout.proofs.Widths.{and_both}
use Rattle.modes.specs.declared.Initial.TheVariants.{None, Number}
use Rattle.modes.specs.declared.Mode.{Mode}
use Rattle.modes.specs.declared.Mode.TheVariants.{Plain, Sorted, Strict}
use Rattle.order.specs.Order.{after, admits, ordered}
use Rattle.order.specs.Claims.{Follows, First, InOrder, OrderTells}

-- what may come next
admitted : (m : Mode) (v : ℕ) → admits m v ≡ true → First m v
admitted Plain v h = tt
admitted (Sorted f) v h = leb-true f v h
admitted (Strict None) v h = tt
admitted (Strict (Number f)) v h = ltb-true f v h

admitting : (m : Mode) (v : ℕ) → First m v → admits m v ≡ true
admitting Plain v h = refl
admitting (Sorted f) v h = le-leb f v h
admitting (Strict None) v h = refl
admitting (Strict (Number f)) v h = lt-ltb f v h

-- behind v the first is what follows v, and what follows is the mode's own
behind : (m : Mode) (v w : ℕ) → First (after m v) w → Follows m v w
behind Plain v w h = tt
behind (Sorted f) v w h = h
behind (Strict i) v w h = h

before : (m : Mode) (v w : ℕ) → Follows m v w → First (after m v) w
before Plain v w h = tt
before (Sorted f) v w h = h
before (Strict i) v w h = h

later : (m : Mode) (t v w : ℕ) → Follows (after m t) v w → Follows m v w
later Plain t v w h = tt
later (Sorted f) t v w h = h
later (Strict i) t v w h = h

sooner : (m : Mode) (t v w : ℕ) → Follows m v w → Follows (after m t) v w
sooner Plain t v w h = tt
sooner (Sorted f) t v w h = h
sooner (Strict i) t v w h = h

there : (m : Mode) (vs : List ℕ) → ordered m vs ≡ true → InOrder m vs
unfolding ordered
there m [] h = record { first = λ p. absurd (omega arith); each = λ i p. absurd (omega arith) }
there m (v ∷ vs) h =
    let a = and_both (admits m v) (ordered (after m v) vs) h in
    let r = there (after m v) vs a.1 in
    record { first = λ p. admitted m v a.0; each = λ i p. step r i p }
  where
    step : InOrder (after m v) vs → (i : ℕ) → suc i < length (v ∷ vs) → Follows m (at (v ∷ vs) i) (at (v ∷ vs) (suc i))
    step r zero p = behind m v (at vs 0) (r.first (omega arith))
    step r (suc i) p = later m v (at vs i) (at vs (suc i)) (r.each i (omega arith))

back : (m : Mode) (vs : List ℕ) → InOrder m vs → ordered m vs ≡ true
unfolding ordered
back m [] o = refl
back m (v ∷ vs) o =
    rw (admitting m v (o.first (omega arith)))
    (back (after m v) vs
    record {
      first = λ p. before m v (at vs 0) (o.each 0 (omega arith));
      each = λ i p. sooner m v (at vs i) (at vs (suc i)) (o.each (suc i) (omega arith));
    })

pub order_tells : OrderTells
order_tells m vs = (there m vs, back m vs)
