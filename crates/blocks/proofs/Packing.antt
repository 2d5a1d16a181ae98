-- Packing, row by row: what holds at row r, and that a row more keeps it.
use mathlib.Core.Path.{◌≡◌, refl, sym, ◌∙◌, ap}
use mathlib.Core.Logic.{◌↔◌}
use mathlib.Core.List.{List}
use Prim.Native.Nat.{ℕ, ◌+◌, ◌*◌, ◌-◌, ◌/◌, ◌%◌, ◌^◌, ◌≤◌, ◌<◌}
use native.Mathlib.Nat.{zero-mul, div-lt_iff_lt-mul, le-div_iff_mul-le}
use native.Mathlib.Omega.{arith}
use native.Mathlib.Decide.{dec_lt}
use lib.Bits.{bit_or}
use lib.ListN.{length}
use Rattle.layout.specs.Layout.{at, payload_size, entry_bits, payload_byte, packed}
use Rattle.answers.specs.Answers.{over}
use Rattle.lanes.specs.Rows.{IsRow}
use Rattle.blocks.specs.kernel.Places.{RowOf, WordsStored}
use Rattle.blocks.specs.kernel.Registers.{HoldsBits, bits_stored, byte_start, Packing}
use Rattle.layout.proofs.Strings.{number_byte}
use Rattle.layout.proofs.Products.{one_more, below_mul}
use Rattle.layout.proofs.Lanes.{payload_at, entry_bits_lem, row_number}
use Rattle.layout.proofs.Tables.{front_table}
use Rattle.blocks.proofs.Places.{payload_words}
use Rattle.blocks.proofs.Registers.{holds_none, holds_shr, holds_both, holds_word}

-- the bytes of the words before word w, and those from it on
module _ (L i w : ℕ) (pos : 0 < L) where
  byte_below : (byte_start L i < 32 * w) ↔ (i < 4 * (w * L))
  byte_below =
      let q = div-lt_iff_lt-mul {k = L} {x = i / 4} {y = w} pos in
      (λ h. omega (arith, q.0 (omega arith)), λ h. omega (arith, q.1 (omega arith)))

  byte_from : (32 * w ≤ byte_start L i) ↔ (4 * (w * L) ≤ i)
  byte_from =
      let q = le-div_iff_mul-le {k = L} {x = w} {y = i / 4} pos in
      (λ h. omega (arith, q.0 (omega arith)), λ h. omega (arith, q.1 (omega arith)))

-- before the first row
pub pack_start : (L n : ℕ) (e : ℕ → ℕ) (out : List ℕ) {x : List ℕ} → L ≤ 8 → IsRow x (λ l. 0) → Packing L n e out 0 x out
pack_start L n e out h zeros =
    record {
      size = refl;
      done = λ i k. absurd (omega (arith, zero-mul n));
      held = holds_none h (omega (arith, zero-mul n)) zeros;
      rest = λ i k. refl;
    }

-- a row more: v is row r, t that row shifted to its place, and y what it makes with the bits held
module _ {L n : ℕ} {e : ℕ → ℕ} {before : List ℕ} {r : ℕ} {x out : List ℕ} (p : Packing L n e before r x out) (lanes : L ≤ 8) (v : List ℕ) {t y : List ℕ}
    (is : RowOf L e r v) (fits : (l : ℕ) → l < L → at v l < 2 ^ n)
    (shifted : IsRow t (λ l. at v l * 2 ^ (r * n % 32) % 2 ^ 32))
    (joined : IsRow y (λ l. bit_or (at x l) (at t l))) where
  bits : (l : ℕ) → (k : ℕ) → entry_bits L n e l k < 2
  bits = entry_bits_lem L n e

  held : HoldsBits L (entry_bits L n e) (bits_stored n r) (r * n % 32) x
  held =
      let c : r * n - bits_stored n r ≡ r * n % 32 = omega arith in
      rw c at p.held

  entering : HoldsBits L (entry_bits L n e) (r * n) n v
  entering = record { bits = λ l h. is l h ∙ sym (row_number L n e l r (rw (is l h) at (fits l h))) }

  -- the word is not full yet
  pub pack_keep : n < 32 - r * n % 32 → Packing L n e before (r + 1) y out
  pack_keep h =
      let same : bits_stored n (r + 1) ≡ bits_stored n r = omega (arith, one_more r n) in
      let more : r * n % 32 + n ≡ (r + 1) * n - bits_stored n r = omega (arith, one_more r n) in
      record {
        size = p.size;
        done = λ i k. p.done i (omega (arith, same));
        held = rw same (rw more at (holds_both lanes bits held entering (omega arith) shifted joined (omega arith)));
        rest = λ i k. p.rest i (omega (arith, same));
      }

  -- the word is full: it is stored, and what is over goes into the next
  module _ (pos : 0 < L) (h : 32 - r * n % 32 ≤ n) (narrow : n ≤ 32) {z after : List ℕ} (over : IsRow z (λ l. at v l / 2 ^ (32 - r * n % 32)))
      (s : WordsStored (r * n / 32 * L) L y out after) where
    word : HoldsBits L (entry_bits L n e) (32 * (r * n / 32)) 32 y
    word = holds_word lanes bits held entering (omega arith) shifted joined (omega arith) (omega arith)

    full : bits_stored n (r + 1) ≡ 32 * (r * n / 32 + 1)
    full = omega (arith, one_more r n)

    done : (i : ℕ) → i < 4 * ((r * n / 32 + 1) * L) → Dec (i < 4 * (r * n / 32 * L)) → at after i ≡ payload_byte L n e i
    done i k (yes lt) = s.below i lt ∙ p.done i ((byte_below L i (r * n / 32) pos).1 lt)
    done i k (no ge) =
        let w : ℕ = r * n / 32 in
        let l : ℕ = i / 4 - w * L in
        let lt : l < L = omega (arith, one_more w L) in
        let at_byte : i ≡ 4 * (w * L + l) + i % 4 = omega arith in
        s.inside i (omega arith) (omega (arith, one_more w L))
        ∙ ap (λ (q : ℕ). q / 2 ^ (8 * (i % 4)) % 256) (word.bits l lt)
        ∙ number_byte (entry_bits L n e l) (bits l) (32 * w) (i % 4) (omega arith)
        ∙ sym (ap (payload_byte L n e) at_byte ∙ payload_at L n e w l (i % 4) lt (omega arith))

    pub pack_store : Packing L n e before (r + 1) z after
    pack_store =
        let w : ℕ = r * n / 32 in
        record {
          size = s.size ∙ p.size;
          done = λ i k. done i ((byte_below L i (w + 1) pos).0 (omega (arith, full))) (dec_lt i (4 * (w * L)));
          held = holds_shr lanes bits (32 - r * n % 32) entering over (omega (arith, one_more r n)) (omega (arith, one_more r n));
          rest = λ i k.
              let ge : 4 * ((w + 1) * L) ≤ i = (byte_from L i (w + 1) pos).0 (omega (arith, full)) in
              s.above i (omega (arith, one_more w L)) ∙ p.rest i (omega (arith, full));
        }

-- a word that is full is one of n
pub pack_word : (n r : ℕ) → r < 32 → 32 - r * n % 32 ≤ n → r * n / 32 < n
pack_word n r lt h = omega (arith, below_mul n lt)

-- after the last row every word is stored
pub pack_end : {L n : ℕ} {e : ℕ → ℕ} {before : List ℕ} {r : ℕ} {x out : List ℕ} → Packing L n e before r x out → r ≡ 32 → 0 < L → payload_size L n ≤ length before
    → out ≡ over (packed L n e) before
unfolding packed
pack_end {L} {n} {e} {before} {r} {x} {out} p last pos fits =
    let all : bits_stored n r ≡ 32 * n = rw last (omega arith) in
    front_table (payload_byte L n e) (payload_size L n) before out p.size fits
    (λ i h. p.done i (omega (arith, all, (byte_below L i n pos).1 (omega (arith, payload_words L n)))))
    (λ i h. p.rest i (omega (arith, all, (byte_from L i n pos).1 (omega (arith, payload_words L n)))))
