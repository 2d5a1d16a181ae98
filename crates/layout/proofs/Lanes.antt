-- Laws of a lane: its numbers, from the side of the entries and from the side of the bytes.
use mathlib.Core.Path.{◌≡◌, sym, ◌∙◌, ap}
use mathlib.Core.List.{List}
use Prim.Native.Nat.{ℕ, ◌+◌, ◌*◌, ◌/◌, ◌%◌, ◌^◌, ◌<◌}
use native.Mathlib.Nat.{mod-eq_of_lt, mul_comm, add-zero, add_assoc}
use native.Mathlib.Omega.{arith}
use lib.Arith.{digits_div, digits_mod}
use Rattle.layout.specs.Layout.{at, bit, of_bits, entry_bits, byte_bits, payload_byte, payload_entry, word_at}
use Rattle.layout.proofs.Strings.{Bits, bit_lt, number_split, number_of}

pub entry_bits_lem : (L n : ℕ) (en : ℕ → ℕ) (l : ℕ) → Bits (entry_bits L n en l)
unfolding entry_bits
entry_bits_lem L n en l p = bit_lt _ _

pub byte_bits_lem : (L : ℕ) (bs : List ℕ) (l : ℕ) → Bits (byte_bits L bs l)
unfolding byte_bits
byte_bits_lem L bs l p = bit_lt _ _

-- row r of a lane is its entry
pub row_number : (L n : ℕ) (en : ℕ → ℕ) (l r : ℕ) → en (r * L + l) < 2 ^ n → of_bits (entry_bits L n en l) (r * n) n ≡ en (r * L + l)
unfolding entry_bits
row_number L n en l r fits =
    number_of (entry_bits L n en l) (en (r * L + l)) (r * n) n (λ j h. rw (digits_div r h, digits_mod r h)) ∙ mod-eq_of_lt fits

-- byte b of word w of a lane is its byte
pub byte_number : (L : ℕ) (bs : List ℕ) (l w b : ℕ) → b < 4 → at bs (4 * (w * L + l) + b) < 256
    → of_bits (byte_bits L bs l) (32 * w + 8 * b) 8 ≡ at bs (4 * (w * L + l) + b)
unfolding byte_bits
byte_number L bs l w b lt fits =
    number_of (byte_bits L bs l) (at bs (4 * (w * L + l) + b)) (32 * w + 8 * b) 8 here ∙ mod-eq_of_lt fits
  where
    here : (j : ℕ) → j < 8 → byte_bits L bs l (32 * w + 8 * b + j) ≡ bit (at bs (4 * (w * L + l) + b)) j
    here j h =
        let p : ℕ = 32 * w + 8 * b + j in
        let e : p / 32 ≡ w = omega arith in
        let f : p % 32 / 8 ≡ b = omega arith in
        let g : p % 32 % 8 ≡ j = omega arith in
        rw (e, f, g)

-- word w of a lane is the word that stands there
pub word_number : (L : ℕ) (bs : List ℕ) (l w : ℕ) → ((i : ℕ) → at bs i < 256)
    → of_bits (byte_bits L bs l) (32 * w) 32 ≡ word_at bs (4 * (w * L + l))
word_number L bs l w fits =
    let β : ℕ → ℕ = byte_bits L bs l in
    let s : ℕ = 32 * w in
    let i : ℕ = 4 * (w * L + l) in
    let q0 : of_bits β s 8 ≡ at bs i = ap (λ (t : ℕ). of_bits β t 8) (sym (add-zero s)) ∙ byte_number L bs l w 0 (omega arith) (fits _) ∙ ap (at bs) (add-zero i) in
    let q1 : of_bits β (s + 8) 8 ≡ at bs (i + 1) = byte_number L bs l w 1 (omega arith) (fits _) in
    let q2 : of_bits β (s + 16) 8 ≡ at bs (i + 2) = byte_number L bs l w 2 (omega arith) (fits _) in
    let q3 : of_bits β (s + 24) 8 ≡ at bs (i + 3) = byte_number L bs l w 3 (omega arith) (fits _) in
    let e1 : of_bits β s 32 ≡ of_bits β (s + 8) 24 * 256 + of_bits β s 8 = number_split β s 8 24 in
    let e2 : of_bits β (s + 8) 24 ≡ of_bits β (s + 16) 16 * 256 + of_bits β (s + 8) 8 = rw (add_assoc s 8 8) at (number_split β (s + 8) 8 16) in
    let e3 : of_bits β (s + 16) 16 ≡ of_bits β (s + 24) 8 * 256 + of_bits β (s + 16) 8 = rw (add_assoc s 16 8) at (number_split β (s + 16) 8 8) in
    omega arith

-- the byte of a payload that is byte b of word w of lane l
pub payload_at : (L n : ℕ) (en : ℕ → ℕ) (w l b : ℕ) → l < L → b < 4
    → payload_byte L n en (4 * (w * L + l) + b) ≡ of_bits (entry_bits L n en l) (32 * w + 8 * b) 8
unfolding payload_byte
payload_at L n en w l b h k =
    let e : (4 * (w * L + l) + b) / 4 ≡ w * L + l = omega arith in
    let f : (4 * (w * L + l) + b) % 4 ≡ b = omega arith in
    rw (e, f, digits_div w h, digits_mod w h)

-- entry k of a payload, by its row and lane
pub entry_at : (L n : ℕ) (bs : List ℕ) (r l : ℕ) → l < L → payload_entry L n bs (r * L + l) ≡ of_bits (byte_bits L bs l) (r * n) n
unfolding payload_entry
entry_at L n bs r l h = rw (digits_div r h, digits_mod r h)

-- Width 32 is no case of its own: there each row is a whole word.

-- word r of lane l is entry rL + l, in packing
pub word_32 : (L : ℕ) (en : ℕ → ℕ) (l r : ℕ) → en (r * L + l) < 2 ^ 32 → of_bits (entry_bits L 32 en l) (32 * r) 32 ≡ en (r * L + l)
word_32 L en l r fits = rw mul_comm (row_number L 32 en l r fits)

-- and in unpacking
pub entry_32 : (L : ℕ) (bs : List ℕ) (l r : ℕ) → ((i : ℕ) → at bs i < 256) → l < L → payload_entry L 32 bs (r * L + l) ≡ word_at bs (4 * (r * L + l))
entry_32 L bs l r bytes h =
    entry_at L 32 bs r l h ∙ ap (λ (s : ℕ). of_bits (byte_bits L bs l) s 32) (mul_comm r 32) ∙ word_number L bs l r bytes
