-- What packing and unpacking hold between two rows.
use Rattle.std.specs.Prelude.{◌≡◌, List, ℕ, ◌+◌, ◌*◌, ◌-◌, ◌/◌, ◌%◌, ◌≤◌, ◌<◌, length}
use Rattle.layout.specs.Layout.{at, of_bits, entry_bits, payload_byte}

-- x holds, for each of L lanes, m bits of the lane's string of bits from bit s on
pub record HoldsBits (L : ℕ) (lane : ℕ → ℕ → ℕ) (s m : ℕ) (x : List ℕ) : Type 0 where
  pub bits : (l : ℕ) → l < L → at x l ≡ of_bits (lane l) s m

-- Unpacking: how many bits are left of the words read before row r, those up to the end of the word that row r - 1 ends in
abbrev pub bits_left : ℕ → ℕ → ℕ
bits_left n r = 32 * ((r * n + 31) / 32) - r * n

-- Packing: how many bits of each lane are stored before row r, those of the words that are full
abbrev pub bits_stored : ℕ → ℕ → ℕ
bits_stored n r = 32 * (r * n / 32)

-- the bit of its lane that byte i of a payload starts with
abbrev pub byte_start : ℕ → ℕ → ℕ
byte_start L i = 32 * (i / 4 / L) + 8 * (i % 4)

-- packing the entries e into `before`, at row r: the bits that are stored are in out, the rest of the rows so far is in x, and the
-- rest of out is as it was
pub record Packing (L n : ℕ) (e : ℕ → ℕ) (before : List ℕ) (r : ℕ) (x out : List ℕ) : Type 0 where
  pub size : length out ≡ length before
  pub done : (i : ℕ) → byte_start L i < bits_stored n r → at out i ≡ payload_byte L n e i
  pub held : HoldsBits L (entry_bits L n e) (bits_stored n r) (r * n - bits_stored n r) x
  pub rest : (i : ℕ) → bits_stored n r ≤ byte_start L i → at out i ≡ at before i
