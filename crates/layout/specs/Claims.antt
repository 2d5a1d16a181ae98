-- What is claimed of the layout and of widths: document 01's sentences, each as one statement, and that the definitions are what they
-- determine. Each claim is proved by one name (proofs/Claims).
use Rattle.std.specs.Prelude.{◌≡◌, true, ◌↔◌, List, ℕ, ◌+◌, ◌*◌, ◌/◌, ◌%◌, ◌^◌, ◌≤◌, ◌<◌, length}
use Rattle.layout.specs.Layout.{Below, block_size, payload_size, bit, packed, payload_entry, word_at}
use Rattle.layout.specs.Width.{fits, least_width, or_all, significant}

-- the bytes bs are a payload of the entries e 0, e 1, .. at width n
pub record LaidOut (L n : ℕ) (e : ℕ → ℕ) (bs : List ℕ) : Type 0 where
  -- "A payload has 4Ln bytes."
  pub size : length bs ≡ 4 * L * n
  pub bytes : Below 256 bs
  -- "Entry k is in lane k mod L and row k div L .. Bit j of row r is bit p = rn + j of its lane: word p div 32, bit p mod 32 of that
  -- word, bit 0 lowest. Word w of lane l starts at byte 4(wL + l), lowest byte first."
  pub bits : (r l j : ℕ) → r < 32 → l < L → j < n → bit (e (r * L + l)) j ≡ bit (word_at bs (4 * ((r * n + j) / 32 * L + l))) ((r * n + j) % 32)

-- "A block fits n when every entry is below 2 to the power n."
abbrev pub Fit : (ℕ → ℕ) → ℕ → ℕ → Type 0
Fit e m n = (k : ℕ) → k < m → e k < 2 ^ n

-- entries that fit have one payload, and `packed` is it
pub record PacksOnly (L n : ℕ) (e : ℕ → ℕ) : Type 0 where
  pub is : LaidOut L n e (packed L n e)
  pub only : (bs : List ℕ) → LaidOut L n e bs → bs ≡ packed L n e

abbrev pub OnePayload : Type 0
OnePayload = (L n : ℕ) (e : ℕ → ℕ) → Fit e (block_size L) n → PacksOnly L n e

-- any bytes of the right length are a payload of one block of entries that fit, and `payload_entry` gives it
pub record UnpacksOnly (L n : ℕ) (bs : List ℕ) : Type 0 where
  pub is : LaidOut L n (payload_entry L n bs) bs
  pub fit : Fit (payload_entry L n bs) (block_size L) n
  pub only : (e : ℕ → ℕ) → LaidOut L n e bs → Fit e (block_size L) n → (k : ℕ) → k < block_size L → e k ≡ payload_entry L n bs k

abbrev pub OneBlock : Type 0
OneBlock = (L n : ℕ) (bs : List ℕ) → length bs ≡ payload_size L n → Below 256 bs → UnpacksOnly L n bs

-- `fits` tells what fits
abbrev pub FitsTells : Type 0
FitsTells = (e : ℕ → ℕ) (m n : ℕ) → (fits e m n ≡ true) ↔ Fit e m n

-- "Least width is the least n that the block fits": n is the least width that e 0, .., e (m - 1) fit
pub record Least (e : ℕ → ℕ) (m n : ℕ) : Type 0 where
  pub fit : Fit e m n
  pub least : (j : ℕ) → Fit e m j → n ≤ j

-- ".. it is 32 less the leading zeros of all entries or-ed together, and 0 if that is 0." (`significant` is that of one number.)
pub record IsLeastWidth (e : ℕ → ℕ) (m : ℕ) : Type 0 where
  pub least : Least e m (least_width e m)
  pub most : least_width e m ≤ 32
  pub by_or : least_width e m ≡ significant (or_all e m)

abbrev pub LeastWidth : Type 0
LeastWidth = (e : ℕ → ℕ) (m : ℕ) → Fit e m 32 → IsLeastWidth e m
