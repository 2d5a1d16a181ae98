-- The numbers of a list or-ed together, one after another.
use Rattle.std.proofs.Common.{◌≡◌, ℕ, zero, suc, ◌<◌, List, [], ◌∷◌, ◌++◌, length, take, min, bit_or, refl, ap₂, ◌∙◌, add-one, arith, length-append, length-take, get_or-append-add, get_or-take, add-zero}
use lib.ListN.{get_or-append}
use Rattle.layout.specs.Layout.{at}
use Rattle.layout.specs.Width.{or_all}
use Rattle.layout.proofs.Joined.{or_used}

or_ext : (e f : ℕ → ℕ) (m : ℕ) → ((i : ℕ) → i < m → e i ≡ f i) → or_all e m ≡ or_all f m
unfolding or_all
or_ext e f zero h = refl
or_ext e f (suc m) h = ap₂ bit_or (or_ext e f m (λ i lt. h i (omega arith))) (h m (omega arith))

-- a number more
pub or_snoc : (ys : List ℕ) (x : ℕ) → or_all (at (ys ++ (x ∷ []))) (length (ys ++ (x ∷ []))) ≡ bit_or (or_all (at ys) (length ys)) x
unfolding or_all
or_snoc ys x =
    let last : at (ys ++ (x ∷ [])) (length ys) ≡ x = rw (add-zero (length ys)) at (get_or-append-add ys (x ∷ []) 0 0) in
    rw (length-append ys (x ∷ []), add-one (length ys), or_all)
    (ap₂ bit_or (or_ext (at (ys ++ (x ∷ []))) (at ys) (length ys) (λ i lt. get_or-append ys (x ∷ []) 0 i lt)) last)

-- the first L of eight
pub or_front : (x : List ℕ) (L : ℕ) → length x ≡ 8 → or_all (at (take L x)) (length (take L x)) ≡ or_all (at x) L
or_front x L h =
    let size : length (take L x) ≡ min L 8 = rw (length-take, h) refl in
    rw size (or_ext (at (take L x)) (at x) (min L 8) (λ i lt. get_or-take L x i 0 (omega arith)) ∙ or_used x L h)
