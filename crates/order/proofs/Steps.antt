-- Entries, values and the order of a list: step by step, there and back, and over lists joined.
use mathlib.Core.Path.{◌≡◌, refl, ◌∙◌, ap, ap₂}
use mathlib.Core.Bool.{Bool, true, false, ◌&&◌}
use mathlib.Core.List.{List, [], ◌∷◌, ◌++◌}
use Prim.Native.Nat.{ℕ, suc, ◌^◌, ◌<◌}
use native.Mathlib.Omega.{arith}
use borrow.Author.Tests.{leb-true, ltb-true}
use lib.ListN.{length}
use Rattle.layout.specs.Layout.{Below}
use Rattle.layout.proofs.Below.{below_none, below_tail, below_cons}
use Rattle.layout.proofs.Widths.{and_both}
use Rattle.modes.specs.declared.Initial.TheVariants.{None, Number}
use Rattle.modes.specs.Entries.{first_of}
use Rattle.modes.specs.declared.Mode.{Mode}
use Rattle.modes.specs.declared.Mode.TheVariants.{Plain, Sorted, Strict}
use Rattle.modes.proofs.Undo.{value_of_entry, entry_of_value, entry_small, value_small}
use Rattle.order.specs.Order.{after, after_all, admits, ordered, next_entry, next_value, entries_of, values_of}

-- the first number is a number of 32 bits, and stays one
abbrev pub Starts : Mode → Type 0
Starts m = first_of m < 2 ^ 32

pub after_starts : (m : Mode) (v : ℕ) → v < 2 ^ 32 → Starts (after m v)
after_starts Plain v h = omega arith
after_starts (Sorted f) v h = h
after_starts (Strict i) v h = h

-- and it is one where a value of 32 bits may come next
admits_starts : (m : Mode) (v : ℕ) → v < 2 ^ 32 → admits m v ≡ true → Starts m
admits_starts Plain v h a = omega arith
admits_starts (Sorted f) v h a = omega (arith, leb-true f v a)
admits_starts (Strict None) v h a = omega arith
admits_starts (Strict (Number f)) v h a = omega (arith, ltb-true f v a)

-- as many, and all of 32 bits

pub length_entries : (m : Mode) (vs : List ℕ) → length (entries_of m vs) ≡ length vs
unfolding entries_of
length_entries m [] = refl
length_entries m (v ∷ vs) = ap suc (length_entries (after m v) vs)

pub length_values : (m : Mode) (es : List ℕ) → length (values_of m es) ≡ length es
unfolding values_of
length_values m [] = refl
length_values m (e ∷ es) = ap suc (length_values (after m (next_value m e)) es)

pub entries_small : (m : Mode) (vs : List ℕ) → Below (2 ^ 32) vs → Below (2 ^ 32) (entries_of m vs)
unfolding entries_of
entries_small m [] w = below_none (omega arith)
entries_small m (v ∷ vs) w = below_cons (next_entry m v) (entries_of (after m v) vs) (entry_small m (first_of m) v (w 0)) (entries_small (after m v) vs (below_tail v vs w))

pub values_small : (m : Mode) (es : List ℕ) → Below (2 ^ 32) es → Below (2 ^ 32) (values_of m es)
unfolding values_of
values_small m [] w = below_none (omega arith)
values_small m (e ∷ es) w = below_cons (next_value m e) (values_of (after m (next_value m e)) es) (value_small m (first_of m) e (w 0)) (values_small (after m (next_value m e)) es (below_tail e es w))

-- there and back

values_back : (m : Mode) (vs : List ℕ) → Starts m → Below (2 ^ 32) vs → values_of m (entries_of m vs) ≡ vs
unfolding entries_of values_of
values_back m [] s w = refl
values_back m (v ∷ vs) s w =
    let e : next_value m (next_entry m v) ≡ v = value_of_entry m (first_of m) v s (w 0) in
    rw e (ap (λ (t : List ℕ). v ∷ t) (values_back (after m v) vs (after_starts m v (w 0)) (below_tail v vs w)))

entries_back : (m : Mode) (es : List ℕ) → Starts m → Below (2 ^ 32) es → entries_of m (values_of m es) ≡ es
unfolding entries_of values_of
entries_back m [] s w = refl
entries_back m (e ∷ es) s w =
    ap₂ (λ (h : ℕ) (t : List ℕ). h ∷ t) (entry_of_value m (first_of m) e s (w 0))
    (entries_back (after m (next_value m e)) es (after_starts m (next_value m e) (value_small m (first_of m) e (w 0))) (below_tail e es w))

-- for values in order, whatever the first number

pub values_entries : (m : Mode) (vs : List ℕ) → Below (2 ^ 32) vs → ordered m vs ≡ true → values_of m (entries_of m vs) ≡ vs
unfolding entries_of values_of ordered
values_entries m [] w o = refl
values_entries m (v ∷ vs) w o = values_back m (v ∷ vs) (admits_starts m v (w 0) (and_both (admits m v) _ o).0) w

pub entries_values : (m : Mode) (es : List ℕ) → Below (2 ^ 32) es → ordered m (values_of m es) ≡ true → entries_of m (values_of m es) ≡ es
unfolding entries_of values_of ordered
entries_values m [] w o = refl
entries_values m (e ∷ es) w o =
    entries_back m (e ∷ es) (admits_starts m (next_value m e) (value_small m (first_of m) e (w 0)) (and_both (admits m (next_value m e)) _ o).0) w

-- in plain mode they are the same numbers
pub plain_values : (es : List ℕ) → values_of Plain es ≡ es
unfolding values_of
plain_values [] = refl
plain_values (e ∷ es) = ap (λ (t : List ℕ). e ∷ t) (plain_values es)

-- lists joined

pub after_append : (m : Mode) (vs ws : List ℕ) → after_all m (vs ++ ws) ≡ after_all (after_all m vs) ws
unfolding after_all
after_append m [] ws = refl
after_append m (v ∷ vs) ws = after_append (after m v) vs ws

pub values_append : (m : Mode) (es fs : List ℕ) → values_of m (es ++ fs) ≡ values_of m es ++ values_of (after_all m (values_of m es)) fs
unfolding values_of after_all
values_append m [] fs = refl
values_append m (e ∷ es) fs = ap (λ (t : List ℕ). next_value m e ∷ t) (values_append (after m (next_value m e)) es fs)

pub entries_append : (m : Mode) (vs ws : List ℕ) → entries_of m (vs ++ ws) ≡ entries_of m vs ++ entries_of (after_all m vs) ws
unfolding entries_of after_all
entries_append m [] ws = refl
entries_append m (v ∷ vs) ws = ap (λ (t : List ℕ). next_entry m v ∷ t) (entries_append (after m v) vs ws)

and_assoc : (a b c : Bool) → a && (b && c) ≡ a && b && c
and_assoc true b c = refl
and_assoc false b c = refl

pub ordered_append : (m : Mode) (vs ws : List ℕ) → ordered m (vs ++ ws) ≡ ordered m vs && ordered (after_all m vs) ws
unfolding ordered after_all
ordered_append m [] ws = refl
ordered_append m (v ∷ vs) ws = ap (λ (t : Bool). admits m v && t) (ordered_append (after m v) vs ws) ∙ and_assoc (admits m v) (ordered (after m v) vs) (ordered (after_all (after m v) vs) ws)

-- one value, or one entry, more

pub after_one : (m : Mode) (v : ℕ) → after_all m (v ∷ []) ≡ after m v
unfolding after_all
after_one m v = refl

pub values_one : (m : Mode) (e : ℕ) → values_of m (e ∷ []) ≡ next_value m e ∷ []
unfolding values_of
values_one m e = refl

pub entries_one : (m : Mode) (v : ℕ) → entries_of m (v ∷ []) ≡ next_entry m v ∷ []
unfolding entries_of
entries_one m v = refl

and_true : (a : Bool) → a && true ≡ a
and_true true = refl
and_true false = refl

pub ordered_one : (m : Mode) (v : ℕ) → ordered m (v ∷ []) ≡ admits m v
unfolding ordered
ordered_one m v = and_true (admits m v)

-- the mode past a list is the mode past its last value

after_after : (m : Mode) (a b : ℕ) → after (after m a) b ≡ after m b
after_after Plain a b = refl
after_after (Sorted f) a b = refl
after_after (Strict i) a b = refl

after_kind : (m : Mode) (vs : List ℕ) (x : ℕ) → after (after_all m vs) x ≡ after m x
unfolding after_all
after_kind m [] x = refl
after_kind m (v ∷ vs) x = after_kind (after m v) vs x ∙ after_after m v x

pub after_last : (m : Mode) (vs : List ℕ) (x : ℕ) → after_all m (vs ++ (x ∷ [])) ≡ after m x
after_last m vs x = after_append m vs (x ∷ []) ∙ after_one (after_all m vs) x ∙ after_kind m vs x
