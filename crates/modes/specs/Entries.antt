-- "Entries" of document 01: values turned into entries, and back. Differences and sums are taken modulo 4,294,967,296.
use Rattle.std.specs.Prelude.{ℕ, zero, suc}
use Rattle.lanes.specs.Sums.{plus, minus, before}
use Rattle.modes.specs.declared.Initial.{Initial}
use Rattle.modes.specs.declared.Initial.TheVariants.{None, Number}
use Rattle.modes.specs.declared.Mode.{Mode}
use Rattle.modes.specs.declared.Mode.TheVariants.{Plain, Sorted, Strict}

-- "None stands for 4,294,967,295"
abbrev pub initial_of : Initial → ℕ
initial_of None = 4294967295
initial_of (Number f) = f

-- "The previous value of the first is the first number." Plain has none and asks for none.
abbrev pub first_of : Mode → ℕ
first_of Plain = 0
first_of (Sorted f) = f
first_of (Strict i) = initial_of i

-- the entry of the value v whose previous value is p
abbrev pub entry_of : Mode → ℕ → ℕ → ℕ
-- "plain: entry = value."
entry_of Plain p v = v
-- "sorted: entry = value minus previous value."
entry_of (Sorted f) p v = minus v p
-- "strict: entry = value minus previous value minus 1."
entry_of (Strict i) p v = minus (minus v p) 1

-- "Unpacking runs the same steps backward": the value of the entry e whose previous value is p
abbrev pub value_of : Mode → ℕ → ℕ → ℕ
value_of Plain p e = e
value_of (Sorted f) p e = plus p e
value_of (Strict i) p e = plus p (plus e 1)

-- entry k of the block of values v 0, v 1, ..
abbrev pub entries : Mode → (ℕ → ℕ) → ℕ → ℕ
entries m v k = entry_of m (before (first_of m) v k) (v k)

-- value k of the entries e 0, e 1, .., where p is the value before the first
abbrev pub values_from : Mode → ℕ → (ℕ → ℕ) → ℕ → ℕ
values_from m p e zero = value_of m p (e zero)
values_from m p e (suc k) = value_of m (values_from m p e k) (e (suc k))

-- value k of the block of entries e 0, e 1, ..
abbrev pub values : Mode → (ℕ → ℕ) → ℕ → ℕ
values m e k = values_from m (first_of m) e k
