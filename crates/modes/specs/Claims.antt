-- What is claimed of entries and values, for numbers of 32 bits: that 32 bits hold any entry, and that "Unpacking runs the same steps
-- backward" (proofs/Undo).
use Rattle.std.specs.Prelude.{◌≡◌, ℕ, ◌^◌, ◌≤◌, ◌<◌}
use Rattle.modes.specs.declared.Mode.{Mode}
use Rattle.modes.specs.Entries.{first_of, entries, values}

-- the entry of a value is a number of 32 bits: every block fits width 32
abbrev pub EntriesSmall : Type 0
EntriesSmall = (m : Mode) (v : ℕ → ℕ) (k : ℕ) → v k < 2 ^ 32 → entries m v k < 2 ^ 32

-- the values of a block's entries are the block
abbrev pub ValuesBack : Type 0
ValuesBack = (m : Mode) (v : ℕ → ℕ) → first_of m < 2 ^ 32 → (k : ℕ) → ((i : ℕ) → i ≤ k → v i < 2 ^ 32) → values m (entries m v) k ≡ v k

-- the entries of the values of entries are the entries
abbrev pub EntriesBack : Type 0
EntriesBack = (m : Mode) (e : ℕ → ℕ) → first_of m < 2 ^ 32 → (k : ℕ) → ((i : ℕ) → i ≤ k → e i < 2 ^ 32) → entries m (values m e) k ≡ e k
