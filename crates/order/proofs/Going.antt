-- Going through values, and through the values of entries: what a loop knows past the first i.
use mathlib.Core.Path.{◌≡◌, refl, sym, ◌∙◌, ap}
use mathlib.Core.Bool.{true, false}
use mathlib.Core.List.{List, [], ◌∷◌, ◌++◌}
use Prim.Native.Nat.{ℕ, ◌+◌, ◌-◌, ◌≤◌, ◌<◌}
use native.Mathlib.Omega.{arith}
use lib.ListN.{length, take, drop, take-append-drop}
use Rattle.std.specs.Prelude.{Result, Ok, Err}
use Rattle.answers.specs.declared.Refusal.{Refusal}
use Rattle.answers.specs.declared.Refusal.TheVariants.{OutOfOrder}
use lib.Seq.{take_all, take-length}
use Rattle.layout.specs.Layout.{at}
use Rattle.answers.proofs.Fronts.{take_more}
use Rattle.modes.specs.declared.Mode.{Mode}
use Rattle.order.specs.Order.{after, after_all, admits, ordered, next_entry, next_value, entries_of, values_of, course}
use Rattle.order.proofs.Steps.{after_append, after_one, after_last, entries_append, entries_one, values_append, values_one, ordered_append, ordered_one}

-- the values vs were gone through from m, all in order, and `next` is the mode past them
pub record Going (m : Mode) (vs : List ℕ) (next : Mode) : Type 0 where
  pub order : ordered m vs ≡ true
  pub mode : next ≡ after_all m vs

pub going_none : (m : Mode) → Going m [] m
unfolding ordered after_all
going_none m = record { order = refl; mode = refl }

pub after_more : (m next : Mode) (vs : List ℕ) (i : ℕ) → i < length vs → next ≡ after_all m (take i vs) → after next (at vs i) ≡ after_all m (take (i + 1) vs)
after_more m next vs i lt e = rw (take_more vs i lt, after_append, after_one, ← e)

pub entries_more : (m next : Mode) (vs : List ℕ) (i : ℕ) → i < length vs → next ≡ after_all m (take i vs)
    → entries_of m (take (i + 1) vs) ≡ entries_of m (take i vs) ++ (next_entry next (at vs i) ∷ [])
entries_more m next vs i lt e = rw (take_more vs i lt, entries_append, entries_one, ← e)

-- the mode past values is the mode past their last
pub after_end : (m : Mode) (vs : List ℕ) → 0 < length vs → after_all m vs ≡ after m (at vs (length vs - 1))
after_end m vs pos =
    let n : ℕ = length vs - 1 in
    let q : n + 1 ≡ length vs = omega arith in
    let e : vs ≡ take n vs ++ (at vs n ∷ []) = sym (take-length vs) ∙ ap (λ (t : ℕ). take t vs) (sym q) ∙ take_more vs n (omega arith) in
    ap (after_all m) e ∙ after_last m (take n vs) (at vs n)

-- one value v more
module _ {m next : Mode} {vs : List ℕ} (g : Going m vs next) (v : ℕ) where
  pub going_more : admits next v ≡ true → Going m (vs ++ (v ∷ [])) (after next v)
  going_more ok =
      record {
        order = rw (ordered_append, ordered_one, g.order, ← g.mode) ok;
        mode = rw (after_append, after_one, ← g.mode);
      }

  -- it does not follow: nor is it in order with more values behind it
  pub going_bad : admits next v ≡ false → (ws : List ℕ) → ordered m ((vs ++ (v ∷ [])) ++ ws) ≡ false
  going_bad bad ws = rw (ordered_append, ordered_append, ordered_one, g.order, ← g.mode, bad)

-- values one by one
module _ {m next : Mode} (vs : List ℕ) (i : ℕ) (g : Going m (take i vs) next) where
  module _ (lt : i < length vs) where
    pub going_on : admits next (at vs i) ≡ true → Going m (take (i + 1) vs) (after next (at vs i))
    going_on ok = rw (take_more vs i lt) (going_more g (at vs i) ok)

    pub out_of_order : admits next (at vs i) ≡ false → ordered m vs ≡ false
    out_of_order bad =
        ap (ordered m) (sym (take-append-drop (i + 1) vs) ∙ ap (λ (t : List ℕ). t ++ drop (i + 1) vs) (take_more vs i lt))
        ∙ going_bad g (at vs i) bad (drop (i + 1) vs)

  pub all_in_order : length vs ≤ i → ordered m vs ≡ true
  all_in_order h = ap (ordered m) (sym (take_all i vs h)) ∙ g.order

-- entries one by one: their values
module _ {m next : Mode} (es : List ℕ) (i : ℕ) (g : Going m (values_of m (take i es)) next) where
  module _ (lt : i < length es) where
    one_value : values_of m (take (i + 1) es) ≡ values_of m (take i es) ++ (next_value next (at es i) ∷ [])
    one_value = rw (take_more es i lt, values_append, values_one, ← g.mode)

    pub walking_on : admits next (next_value next (at es i)) ≡ true → Going m (values_of m (take (i + 1) es)) (after next (next_value next (at es i)))
    walking_on ok = rw one_value (going_more g (next_value next (at es i)) ok)

    pub walk_ends : admits next (next_value next (at es i)) ≡ false → ◌≡◌ {A = Result Mode Refusal} (Err OutOfOrder) (course m (values_of m es))
    walk_ends bad =
        let split : values_of m es ≡ values_of m (take (i + 1) es) ++ values_of (after_all m (values_of m (take (i + 1) es))) (drop (i + 1) es) =
        ap (values_of m) (sym (take-append-drop (i + 1) es)) ∙ values_append m (take (i + 1) es) (drop (i + 1) es) in
        let no : ordered m (values_of m es) ≡ false = rw (split, one_value) (going_bad g (next_value next (at es i)) bad _) in
        rw no

  pub walk_through : length es ≤ i → ◌≡◌ {A = Result Mode Refusal} (Ok next) (course m (values_of m es))
  walk_through h =
      let all : take i es ≡ es = take_all i es h in
      let g' : Going m (values_of m es) next = rw all at g in
      rw (g'.order, g'.mode)
