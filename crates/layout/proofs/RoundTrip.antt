-- Packing and unpacking undo each other, on the definitions.
use mathlib.Core.Path.{◌≡◌, sym, ◌∙◌, ap}
use mathlib.Core.List.{List, ◌++◌}
use Prim.Native.Nat.{ℕ, ◌+◌, ◌*◌, ◌/◌, ◌%◌, ◌^◌, ◌≤◌, ◌<◌}
use native.Mathlib.Nat.{mul_assoc, mul_comm, mod-lt, div-lt_iff_lt-mul, div-add-mod'}
use native.Mathlib.Omega.{arith}
use lib.ListN.{length, take, get_or-append}
use lib.Seq.{ext_get_or, get_or-take, length-take-le}
use Rattle.layout.specs.Layout.{at, block_size, payload_size, bit, table, entry_bits, byte_bits, payload_byte, payload_entry, packed, word_at}
use Rattle.layout.proofs.Strings.{bit_number, number_ext, number_lt}
use Rattle.layout.proofs.Products.{below_mul, factor_pos}
use Rattle.layout.proofs.Tables.{length_table, table_at, table_ext}
use Rattle.layout.proofs.Lanes.{entry_at, entry_bits_lem, byte_bits_lem, row_number, byte_number, word_number, payload_at}

-- the bits of a lane in the payload are those of its entries; bytes behind the payload do not matter
pub bits_packed : (L n : ℕ) (en : ℕ → ℕ) (rest : List ℕ) (l p : ℕ) → l < L → p < 32 * n → byte_bits L (packed L n en ++ rest) l p ≡ entry_bits L n en l p
unfolding byte_bits packed
bits_packed L n en rest l p h k =
    let w : ℕ = p / 32 in
    let b : ℕ = p % 32 / 8 in
    let j : ℕ = p % 32 % 8 in
    let i : ℕ = 4 * (w * L + l) + b in
    let lt : w < n = omega arith in
    let e : 32 * w + 8 * b + j ≡ p = omega arith in
    let f : i < 4 * L * n = omega (arith, below_mul L lt, mul_assoc 4 L n, mul_comm L n) in
    let t : List ℕ = table (payload_byte L n en) (4 * L * n) in
    ap (λ (t : ℕ). bit t j) (get_or-append t rest 0 i (rw length_table f) ∙ table_at (payload_byte L n en) (4 * L * n) i f ∙ payload_at L n en w l b h (omega arith))
    ∙ bit_number (entry_bits L n en l) (entry_bits_lem L n en l) (32 * w + 8 * b) 8 j (omega arith) ∙ ap (entry_bits L n en l) e

-- the bits of a lane in the entries of a payload are those of the payload
pub bits_unpacked : (L n : ℕ) (bs : List ℕ) (l p : ℕ) → l < L → 0 < n → entry_bits L n (payload_entry L n bs) l p ≡ byte_bits L bs l p
unfolding entry_bits
bits_unpacked L n bs l p h pos =
    ap (λ (t : ℕ). bit t (p % n)) (entry_at L n bs (p / n) l h)
    ∙ bit_number (byte_bits L bs l) (byte_bits_lem L bs l) (p / n * n) n (p % n) (mod-lt p pos) ∙ ap (byte_bits L bs l) (div-add-mod' p n)

-- every entry of a payload fits the width
pub entry_fits : (L n : ℕ) (bs : List ℕ) (k : ℕ) → payload_entry L n bs k < 2 ^ n
unfolding payload_entry
entry_fits L n bs k = number_lt _ (byte_bits_lem L bs (k % L)) _ n

-- the entries of a payload that was packed
pub entry_packed : (L n : ℕ) (en : ℕ → ℕ) (rest : List ℕ) → ((k : ℕ) → k < 32 * L → en k < 2 ^ n)
    → (k : ℕ) → k < 32 * L → payload_entry L n (packed L n en ++ rest) k ≡ en k
unfolding payload_entry
entry_packed L n en rest fits k h =
    let pos : 0 < L = factor_pos 32 L k h in
    let lt : k / L < 32 = (div-lt_iff_lt-mul pos).1 h in
    let e : k / L * L + k % L ≡ k = div-add-mod' k L in
    number_ext (byte_bits L (packed L n en ++ rest) (k % L)) (entry_bits L n en (k % L)) (k / L * n) (k / L * n) n
    (λ j i. bits_packed L n en rest (k % L) (k / L * n + j) (mod-lt k pos) (omega (arith, below_mul n lt)))
    ∙ row_number L n en (k % L) (k / L) (rw e (fits k h)) ∙ ap en e

-- the payload of the entries of a payload
pub packed_entry : (L n : ℕ) (bs : List ℕ) → 4 * L * n ≤ length bs → ((i : ℕ) → at bs i < 256) → packed L n (payload_entry L n bs) ≡ take (4 * L * n) bs
unfolding packed
packed_entry L n bs size bytes =
    ext_get_or 0 _ _ (length_table _ (4 * L * n) ∙ sym (length-take-le (4 * L * n) bs size)) (λ i h. here i (rw length_table at h))
  where
    here : (i : ℕ) → i < 4 * L * n → at (table (payload_byte L n (payload_entry L n bs)) (4 * L * n)) i ≡ at (take (4 * L * n) bs) i
    here i h =
        let q : ℕ = i / 4 in
        let k : q < n * L = omega (arith, mul_assoc 4 L n, mul_comm L n) in
        let pos : 0 < L = factor_pos n L q k in
        let wide : 0 < n = factor_pos (4 * L) n i h in
        let w : ℕ = q / L in
        let l : ℕ = q % L in
        let e : 4 * (w * L + l) + i % 4 ≡ i = omega (arith, div-add-mod' q L) in
        let p : ℕ = 32 * w + 8 * (i % 4) in
        table_at (payload_byte L n (payload_entry L n bs)) (4 * L * n) i h
        ∙ ap (payload_byte L n (payload_entry L n bs)) (sym e) ∙ payload_at L n (payload_entry L n bs) w l (i % 4) (mod-lt q pos) (omega arith)
        ∙ number_ext (entry_bits L n (payload_entry L n bs) l) (byte_bits L bs l) p p 8 (λ j g. bits_unpacked L n bs l (p + j) (mod-lt q pos) wide)
        ∙ byte_number L bs l w (i % 4) (omega arith) (bytes _) ∙ ap (at bs) e ∙ sym (get_or-take (4 * L * n) bs i 0 h)

-- The document's sentence: bit j of row r is bit p = r n + j of its lane, word p div 32, bit p mod 32 of that word, and word w of lane l starts at byte 4 (w L + l).
pub bit_of_word : (L : ℕ) (bs : List ℕ) (l w q : ℕ) → ((i : ℕ) → at bs i < 256) → q < 32 → bit (word_at bs (4 * (w * L + l))) q ≡ byte_bits L bs l (32 * w + q)
bit_of_word L bs l w q bytes h =
    ap (λ (t : ℕ). bit t q) (sym (word_number L bs l w bytes)) ∙ bit_number (byte_bits L bs l) (byte_bits_lem L bs l) (32 * w) 32 q h

pub bit_of_entry : (L n : ℕ) (bs : List ℕ) (r l j : ℕ) → ((i : ℕ) → at bs i < 256) → l < L → j < n
    → bit (payload_entry L n bs (r * L + l)) j ≡ bit (word_at bs (4 * ((r * n + j) / 32 * L + l))) ((r * n + j) % 32)
bit_of_entry L n bs r l j bytes h k =
    let p : ℕ = r * n + j in
    let e : p ≡ 32 * (p / 32) + p % 32 = omega arith in
    ap (λ (t : ℕ). bit t j) (entry_at L n bs r l h) ∙ bit_number (byte_bits L bs l) (byte_bits_lem L bs l) (r * n) n j k
    ∙ ap (byte_bits L bs l) e ∙ sym (bit_of_word L bs l (p / 32) (p % 32) bytes (omega arith))

-- a payload depends on its block's own entries alone
pub packed_ext : (L n : ℕ) (d e : ℕ → ℕ) → ((k : ℕ) → k < block_size L → d k ≡ e k) → packed L n d ≡ packed L n e
unfolding packed payload_byte entry_bits
packed_ext L n d e same = table_ext (payload_byte L n d) (payload_byte L n e) (payload_size L n) here
  where
    here : (i : ℕ) → i < payload_size L n → payload_byte L n d i ≡ payload_byte L n e i
    here i h =
        let q : ℕ = i / 4 in
        let k : q < n * L = omega (arith, mul_assoc 4 L n, mul_comm L n) in
        let lanes : 0 < L = factor_pos n L q k in
        let wide : 0 < n = factor_pos (4 * L) n i h in
        let w : q / L < n = (div-lt_iff_lt-mul lanes).1 k in
        number_ext (entry_bits L n d (q % L)) (entry_bits L n e (q % L)) (32 * (q / L) + 8 * (i % 4)) (32 * (q / L) + 8 * (i % 4)) 8
        (λ j g.
        let p : ℕ = 32 * (q / L) + 8 * (i % 4) + j in
        let row : p / n < 32 = (div-lt_iff_lt-mul wide).1 (omega arith) in
        ap (λ (t : ℕ). bit t (p % n)) (same (p / n * L + q % L) (omega (arith, below_mul L row, mod-lt q lanes))))
