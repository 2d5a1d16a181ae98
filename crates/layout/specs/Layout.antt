-- "Words" and "Bit layout" of document 01. L is the number of lanes, n the width, r a row, l a lane, w a word of a lane.
use Rattle.std.specs.Prelude.{Bool, ◌||◌, ℕ, zero, suc, ◌+◌, ◌*◌, ◌/◌, ◌%◌, ◌^◌, ◌<◌, List, [], ◌∷◌, ◌++◌, eqb, get_or}

-- the number at place k of the list x, and 0 past its end
abbrev pub at : List ℕ → ℕ → ℕ
at x k = get_or x k 0

-- every number of x is below n: 256 for bytes, 2 to the power 32 for values and entries
abbrev pub Below : ℕ → List ℕ → Type 0
Below n x = (k : ℕ) → at x k < n

-- "L is the number of lanes: 1, 4 or 8."
unfoldable pub is_lanes : ℕ → Bool
is_lanes L = eqb L 1 || eqb L 4 || eqb L 8

-- "A block has B = 32L values."
abbrev pub block_size : ℕ → ℕ
block_size L = 32 * L

-- "A payload has 4Ln bytes."
abbrev pub payload_size : ℕ → ℕ → ℕ
payload_size L n = 4 * L * n

-- the list f 0, f 1, .. of m elements
unfoldable pub table : (ℕ → ℕ) → ℕ → List ℕ
table f zero = []
table f (suc m) = table f m ++ (f m ∷ [])

-- bit j of x, bit 0 lowest
unfoldable pub bit : ℕ → ℕ → ℕ
bit x j = x / 2 ^ j % 2

-- the number of m bits that stands in the string of bits b from bit s on, bit 0 lowest
unfoldable pub of_bits : (ℕ → ℕ) → ℕ → ℕ → ℕ
of_bits b s zero = 0
of_bits b s (suc m) = b (s + m) * 2 ^ m + of_bits b s m

-- "Entry k is in lane k mod L and row k div L .. Bit j of row r is bit p = rn + j of its lane."
-- Lane l of the entries e 0, e 1, .., as a string of bits: bit p is bit p mod n of row p div n. (At n = 0 it has no bits.)
unfoldable pub entry_bits : ℕ → ℕ → (ℕ → ℕ) → ℕ → ℕ → ℕ
entry_bits L n e l p = bit (e (p / n * L + l)) (p % n)

-- ".. word p div 32, bit p mod 32 of that word, bit 0 lowest. Word w of lane l starts at byte 4(wL + l), lowest byte first."
-- Lane l of the bytes bs, as a string of bits: bit q of a word is bit q mod 8 of its byte q div 8.
unfoldable pub byte_bits : ℕ → List ℕ → ℕ → ℕ → ℕ
byte_bits L bs l p = bit (at bs (4 * (p / 32 * L + l) + p % 32 / 8)) (p % 32 % 8)

-- byte i of the payload of the entries e: byte i mod 4 of word w of lane l, where i div 4 = wL + l
unfoldable pub payload_byte : ℕ → ℕ → (ℕ → ℕ) → ℕ → ℕ
payload_byte L n e i = of_bits (entry_bits L n e (i / 4 % L)) (32 * (i / 4 / L) + 8 * (i % 4)) 8

-- the payload of the entries e
unfoldable pub packed : ℕ → ℕ → (ℕ → ℕ) → List ℕ
packed L n e = table (payload_byte L n e) (payload_size L n)

-- entry k of the payload bs: the n bits of row k div L in lane k mod L
unfoldable pub payload_entry : ℕ → ℕ → List ℕ → ℕ → ℕ
payload_entry L n bs k = of_bits (byte_bits L bs (k % L)) (k / L * n) n

-- So entry_bits and payload_byte say the layout from the entries' side, byte_bits and payload_entry from the bytes'. The sentence
-- itself is a claim (Claims, LaidOut), over words as the next definition has them.

-- the word of four bytes that starts at byte i, lowest byte first
abbrev pub word_at : List ℕ → ℕ → ℕ
word_at bs i = at bs i + at bs (i + 1) * 256 + at bs (i + 2) * 65536 + at bs (i + 3) * 16777216
