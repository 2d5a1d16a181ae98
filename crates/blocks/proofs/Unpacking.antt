-- Unpacking, row by row: the row that is read and the bits that are left over; the output that the rows fill.
use mathlib.Core.Path.{◌≡◌, refl, sym, ◌∙◌, ap}
use mathlib.Core.List.{List}
use Prim.Native.Nat.{ℕ, ◌+◌, ◌*◌, ◌-◌, ◌/◌, ◌%◌, ◌^◌, ◌≤◌, ◌<◌}
use native.Mathlib.Nat.{zero-mul}
use native.Mathlib.Omega.{arith}
use native.Mathlib.Decide.{dec_lt}
use lib.Bits.{bit_or, bit_and}
use lib.ListN.{length}
use Rattle.layout.specs.Layout.{at, block_size, table, byte_bits, payload_entry, word_at}
use Rattle.answers.specs.Answers.{over}
use Rattle.lanes.specs.Rows.{IsRow}
use Rattle.blocks.specs.kernel.Places.{RowOf, RowStored}
use Rattle.blocks.specs.kernel.Registers.{HoldsBits, bits_left}
use Rattle.layout.proofs.Products.{one_more, below_mul}
use Rattle.layout.proofs.Lanes.{entry_at, byte_bits_lem, word_number}
use Rattle.layout.proofs.Tables.{front_table}
use Rattle.blocks.proofs.Registers.{holds_none, holds_shr, holds_mask, holds_word}

-- before the first row nothing is left
pub held_none : (L n : ℕ) (bs : List ℕ) {x : List ℕ} → L ≤ 8 → IsRow x (λ l. 0) → HoldsBits L (byte_bits L bs) (0 * n) (bits_left n 0) x
held_none L n bs h zeros = holds_none h (omega (arith, zero-mul n)) zeros

-- x is what is left before row r
module _ (L n : ℕ) (bs : List ℕ) (r : ℕ) {x : List ℕ} (held : HoldsBits L (byte_bits L bs) (r * n) (bits_left n r) x) (lanes : L ≤ 8) where
  -- n bits from there on are row r
  row_of : {v : List ℕ} → HoldsBits L (byte_bits L bs) (r * n) n v → RowOf L (payload_entry L n bs) r v
  row_of q l h = q.bits l h ∙ sym (entry_at L n bs r l h)

  -- it reaches: the row is its low bits
  module _ (h : n ≤ bits_left n r) where
    pub reach_row : {m : ℕ} {ones v : List ℕ} → m ≡ 2 ^ n - 1 → IsRow ones (λ l. m) → IsRow v (λ l. bit_and (at x l) (at ones l)) → RowOf L (payload_entry L n bs) r v
    reach_row mask ones masked = row_of (holds_mask lanes (byte_bits_lem L bs) n (bits_left n r - n) held mask ones masked (omega arith))

    pub reach_held : {z : List ℕ} → IsRow z (λ l. at x l / 2 ^ n) → HoldsBits L (byte_bits L bs) ((r + 1) * n) (bits_left n (r + 1)) z
    reach_held shifted = holds_shr lanes (byte_bits_lem L bs) n held shifted (omega (arith, one_more r n)) (sym (one_more r n))

  -- it does not: the next word of each lane, y, comes in above it
  module _ (h : bits_left n r < n) (narrow : n ≤ 32) (bytes : (i : ℕ) → at bs i < 256) (y : List ℕ)
      (loaded : (l : ℕ) → l < L → at y l ≡ word_at bs (4 * ((r * n + 31) / 32 * L + l))) where
    next : HoldsBits L (byte_bits L bs) (32 * ((r * n + 31) / 32)) 32 y
    next = record { bits = λ l k. loaded l k ∙ sym (word_number L bs l ((r * n + 31) / 32) bytes) }

    pub more_row : {s j : List ℕ} {m : ℕ} {ones v : List ℕ} → IsRow s (λ l. at y l * 2 ^ bits_left n r % 2 ^ 32) → IsRow j (λ l. bit_or (at x l) (at s l))
        → m ≡ 2 ^ n - 1 → IsRow ones (λ l. m) → IsRow v (λ l. bit_and (at j l) (at ones l)) → RowOf L (payload_entry L n bs) r v
    more_row shifted joined mask ones masked =
        row_of (holds_mask lanes (byte_bits_lem L bs) n (32 - n) (holds_word lanes (byte_bits_lem L bs) held next (omega arith) shifted joined (omega arith) (omega arith)) mask ones masked (omega arith))

    pub more_held : {z : List ℕ} → IsRow z (λ l. at y l / 2 ^ (n - bits_left n r)) → HoldsBits L (byte_bits L bs) ((r + 1) * n) (bits_left n (r + 1)) z
    more_held shifted = holds_shr lanes (byte_bits_lem L bs) (n - bits_left n r) next shifted (omega (arith, one_more r n)) (omega (arith, one_more r n))

-- a word that is read is one of n
pub more_word : (n r : ℕ) → r < 32 → bits_left n r < n → (r * n + 31) / 32 < n
more_word n r lt h = omega (arith, below_mul n lt)

-- the output before row r, where value k is g k
pub record Unpacking (L : ℕ) (g : ℕ → ℕ) (before : List ℕ) (r : ℕ) (out : List ℕ) : Type 0 where
  pub size : length out ≡ length before
  pub done : (k : ℕ) → k < r * L → at out k ≡ g k
  pub rest : (k : ℕ) → r * L ≤ k → at out k ≡ at before k

pub unpack_start : (L : ℕ) (g : ℕ → ℕ) (out : List ℕ) → Unpacking L g out 0 out
unpack_start L g out = record { size = refl; done = λ k h. absurd (omega (arith, zero-mul L)); rest = λ k h. refl }

pub unpack_more : {L : ℕ} {g : ℕ → ℕ} {before : List ℕ} {r : ℕ} {out : List ℕ} → Unpacking L g before r out → {v after : List ℕ}
    → RowOf L g r v → RowStored (r * L) L v out after → Unpacking L g before (r + 1) after
unpack_more {L} {g} {before} {r} {out} u {v} {after} is t =
    record {
      size = t.size ∙ u.size;
      done = λ k h. go k h (dec_lt k (r * L));
      rest = λ k h. t.above k (omega (arith, one_more r L)) ∙ u.rest k (omega (arith, one_more r L));
    }
  where
    go : (k : ℕ) → k < (r + 1) * L → Dec (k < r * L) → at after k ≡ g k
    go k h (yes lt) = t.below k lt ∙ u.done k lt
    go k h (no ge) =
        let l : ℕ = k - r * L in
        let i : l < L = omega (arith, one_more r L) in
        let e : r * L + l ≡ k = omega arith in
        sym (ap (at after) e) ∙ t.inside l i ∙ is l i ∙ ap g e

pub unpack_end : {L : ℕ} {g : ℕ → ℕ} {before : List ℕ} {r : ℕ} {out : List ℕ} → Unpacking L g before r out → r ≡ 32 → block_size L ≤ length before
    → out ≡ over (table g (block_size L)) before
unpack_end {L} {g} {before} {r} {out} u e fits =
    front_table g (block_size L) before out u.size fits (λ k h. u.done k (rw e h)) (λ k h. u.rest k (rw e h))
