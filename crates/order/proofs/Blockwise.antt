-- A list's entries and values are those of a block: one rule for both.
use mathlib.Core.Path.{◌≡◌, refl, sym, ◌∙◌}
use mathlib.Core.List.{List, [], ◌∷◌}
use Prim.Native.Nat.{ℕ, zero, suc, ◌<◌}
use native.Mathlib.Omega.{arith}
use lib.ListN.{length}
use Rattle.layout.specs.Layout.{at, table}
use Rattle.layout.proofs.Tables.{table_of}
use Rattle.modes.specs.Entries.{entries, value_of, values}
use Rattle.modes.specs.declared.Mode.{Mode}
use Rattle.modes.specs.declared.Mode.TheVariants.{Plain, Sorted, Strict}
use Rattle.modes.specs.declared.Initial.TheVariants.{Number}
use Rattle.order.specs.Order.{after, after_all, next_value, entries_of, values_of}
use Rattle.order.specs.Claims.{ListEntries, ListValues}
use Rattle.order.proofs.Steps.{after_last, length_entries, values_append, values_one}

entry_at : (m : Mode) (vs : List ℕ) (k : ℕ) → k < length vs → at (entries_of m vs) k ≡ entries m (at vs) k
unfolding entries_of
entry_at m [] k h = absurd (omega arith)
entry_at m (v ∷ vs) zero h = refl
entry_at Plain (v ∷ vs) (suc k) h = entry_at Plain vs k (omega arith)
entry_at (Sorted f) (v ∷ vs) (suc zero) h = entry_at (Sorted v) vs zero (omega arith)
entry_at (Sorted f) (v ∷ vs) (suc (suc k)) h = entry_at (Sorted v) vs (suc k) (omega arith)
entry_at (Strict i) (v ∷ vs) (suc zero) h = entry_at (Strict (Number v)) vs zero (omega arith)
entry_at (Strict i) (v ∷ vs) (suc (suc k)) h = entry_at (Strict (Number v)) vs (suc k) (omega arith)

-- the entries of a list
pub entries_are : ListEntries
entries_are m vs = sym (table_of (entries m (at vs)) (length vs) (entries_of m vs) (length_entries m vs) (λ i h. entry_at m vs i h))

value_past : (m : Mode) (v e : ℕ) → next_value (after m v) e ≡ value_of m v e
value_past Plain v e = refl
value_past (Sorted f) v e = refl
value_past (Strict i) v e = refl

next_value_lem : (m : Mode) (e : ℕ → ℕ) (k : ℕ) → next_value (after_all m (table (values m e) k)) (e k) ≡ values m e k
unfolding table after_all
next_value_lem m e zero = refl
next_value_lem m e (suc j) = rw (after_last m (table (values m e) j) (values m e j)) (value_past m (values m e j) (e (suc j)))

-- the values of a list of entries
pub values_are : ListValues
unfolding table values_of
values_are m e zero = refl
values_are m e (suc k) = values_append m (table e k) (e k ∷ []) ∙ rw (values_are m e k, values_one, next_value_lem m e k)
