-- What is claimed of the order: document 01's sentences, place by place, and that `ordered` tells it (proofs/Claims, order_tells); and of a
-- list's entries and values, that no end of a block plays a part (proofs/Blockwise).
use Rattle.std.specs.Prelude.{◌≡◌, true, ◌↔◌, List, ℕ, suc, ◌≤◌, ◌<◌, length}
use Rattle.layout.specs.Layout.{at, table}
use Rattle.modes.specs.declared.Initial.TheVariants.{None, Number}
use Rattle.modes.specs.declared.Mode.{Mode}
use Rattle.modes.specs.declared.Mode.TheVariants.{Plain, Sorted, Strict}
use Rattle.modes.specs.Entries.{entries, values}
use Rattle.order.specs.Order.{ordered, entries_of, values_of}

-- "In sorted mode each is at least the one before, in strict mode greater .. Plain has no order." v stands behind u.
abbrev pub Follows : Mode → ℕ → ℕ → Type 0
Follows Plain u v = Unit {0}
Follows (Sorted f) u v = u ≤ v
Follows (Strict i) u v = u < v

-- "the first is measured against the first number"; strict with none puts no bound on it. (Nor does strict with 4,294,967,295: a list is
-- measured by the mode that it starts with, `starting`, which makes none of it.)
abbrev pub First : Mode → ℕ → Type 0
First Plain v = Unit {0}
First (Sorted f) v = f ≤ v
First (Strict None) v = Unit {0}
First (Strict (Number f)) v = f < v

pub record InOrder (m : Mode) (vs : List ℕ) : Type 0 where
  pub first : 0 < length vs → First m (at vs 0)
  pub each : (i : ℕ) → suc i < length vs → Follows m (at vs i) (at vs (suc i))

-- `ordered` tells it. A list is in the order of the mode that it starts with (`starting`; bodies/specs/List, `IsList`).
abbrev pub OrderTells : Type 0
OrderTells = (m : Mode) (vs : List ℕ) → (ordered m vs ≡ true) ↔ InOrder m vs

-- "The previous value of a block's first is the last value of the block before": the entries of a list are those of all its values in one run,
-- as if they were one block, and so are the values of its entries
abbrev pub ListEntries : Type 0
ListEntries = (m : Mode) (vs : List ℕ) → entries_of m vs ≡ table (entries m (at vs)) (length vs)

abbrev pub ListValues : Type 0
ListValues = (m : Mode) (e : ℕ → ℕ) (k : ℕ) → values_of m (table e k) ≡ table (values m e) k
