-- Entries and values undo each other, in all three modes.
use mathlib.Core.Path.{◌≡◌, refl, ap, ap₂}
use Prim.Native.Nat.{ℕ, zero, suc, ◌^◌, ◌≤◌, ◌<◌}
use native.Mathlib.Omega.{arith}
use Rattle.lanes.specs.Sums.{before}
use Rattle.modes.specs.Entries.{first_of, entry_of, value_of, entries, values_from, values}
use Rattle.modes.specs.Claims.{EntriesSmall, ValuesBack, EntriesBack}
use Rattle.modes.specs.declared.Mode.{Mode}
use Rattle.modes.specs.declared.Mode.TheVariants.{Plain, Sorted, Strict}

-- one step

pub value_of_entry : (m : Mode) (p v : ℕ) → p < 2 ^ 32 → v < 2 ^ 32 → value_of m p (entry_of m p v) ≡ v
value_of_entry Plain p v h k = refl
value_of_entry (Sorted f) p v h k = omega arith
value_of_entry (Strict i) p v h k = omega arith

pub entry_of_value : (m : Mode) (p e : ℕ) → p < 2 ^ 32 → e < 2 ^ 32 → entry_of m p (value_of m p e) ≡ e
entry_of_value Plain p e h k = refl
entry_of_value (Sorted f) p e h k = omega arith
entry_of_value (Strict i) p e h k = omega arith

-- entries and values are numbers of 32 bits
pub entry_small : (m : Mode) (p v : ℕ) → v < 2 ^ 32 → entry_of m p v < 2 ^ 32
entry_small Plain p v h = h
entry_small (Sorted f) p v h = omega arith
entry_small (Strict i) p v h = omega arith

pub value_small : (m : Mode) (p e : ℕ) → e < 2 ^ 32 → value_of m p e < 2 ^ 32
value_small Plain p e h = h
value_small (Sorted f) p e h = omega arith
value_small (Strict i) p e h = omega arith

-- a block

pub entries_small : EntriesSmall
entries_small m v k h = entry_small m _ (v k) h

pub values_small : (m : Mode) (p : ℕ) (e : ℕ → ℕ) (k : ℕ) → e k < 2 ^ 32 → values_from m p e k < 2 ^ 32
values_small m p e zero h = value_small m p (e 0) h
values_small m p e (suc k) h = value_small m (values_from m p e k) (e (suc k)) h

-- the values of a block's entries are the block
pub values_entries : ValuesBack
values_entries m v first zero h = value_of_entry m (first_of m) (v 0) first (h 0 (omega arith))
values_entries m v first (suc k) h =
    rw (values_entries m v first k (λ i le. h i (omega arith)))
    (value_of_entry m (v k) (v (suc k)) (h k (omega arith)) (h (suc k) (omega arith)))

-- the entries of the values of entries are the entries
pub entries_values : EntriesBack
entries_values m e first zero h = entry_of_value m (first_of m) (e 0) first (h 0 (omega arith))
entries_values m e first (suc k) h =
    entry_of_value m (values m e k) (e (suc k)) (values_small m (first_of m) e k (h k (omega arith))) (h (suc k) (omega arith))

-- both depend on the block alone
pub before_ext : (p : ℕ) (v w : ℕ → ℕ) (k : ℕ) → ((i : ℕ) → i < k → v i ≡ w i) → before p v k ≡ before p w k
before_ext p v w zero h = refl
before_ext p v w (suc k) h = h k (omega arith)

pub entries_ext : (m : Mode) (v w : ℕ → ℕ) (k : ℕ) → ((i : ℕ) → i ≤ k → v i ≡ w i) → entries m v k ≡ entries m w k
entries_ext m v w k h = ap₂ (entry_of m) (before_ext (first_of m) v w k (λ i lt. h i (omega arith))) (h k (omega arith))

pub values_ext : (m : Mode) (p : ℕ) (d e : ℕ → ℕ) (k : ℕ) → ((i : ℕ) → i ≤ k → d i ≡ e i) → values_from m p d k ≡ values_from m p e k
values_ext m p d e zero h = ap (value_of m p) (h 0 (omega arith))
values_ext m p d e (suc k) h = ap₂ (value_of m) (values_ext m p d e k (λ i le. h i (omega arith))) (h (suc k) (omega arith))
