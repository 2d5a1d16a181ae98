-- Rows of words in the payload; a word that is stored.
use mathlib.Core.Path.{◌≡◌, ◌∙◌, sym, ap}
use mathlib.Core.List.{List}
use Prim.Native.Nat.{ℕ, zero, suc, ◌+◌, ◌*◌, ◌/◌, ◌%◌, ◌^◌, ◌≤◌, ◌<◌}
use native.Mathlib.Nat.{div-one, add-zero, mul_assoc, mul_comm}
use native.Mathlib.Omega.{arith}
use lib.ListN.{length, set, length-set}
use Rattle.std.specs.Int.{w32, to_le_bytes}
use Rattle.std.proofs.Math.Seq.{paste}
use Rattle.std.proofs.lemmas.List.Edits.{paste_none, paste_more}
use Rattle.std.proofs.Common.{lit<}
use Rattle.layout.proofs.Products.{below_mul}
use Rattle.layout.proofs.Stores.{at_same, at_other}
use Rattle.layout.specs.Layout.{at, payload_size}
use Rattle.blocks.specs.kernel.Places.{with_word}

-- a payload is n rows of words
pub payload_words : (L n : ℕ) → payload_size L n ≡ 4 * (n * L)
payload_words L n = mul_assoc 4 L n ∙ ap (λ (m : ℕ). 4 * m) (mul_comm L n)

-- each of which lies in it
pub word_room : (L n w : ℕ) → w < n → 4 * (w * L + L) ≤ payload_size L n
word_room L n w h = omega (arith, below_mul L h, payload_words L n)

-- byte b of the word that is stored
pub with_word_at : (bs : List ℕ) (i v b : ℕ) → b < 4 → i + 4 ≤ length bs → at (with_word bs i v) (i + b) ≡ v / 2 ^ (8 * b) % 256
with_word_at bs i v zero lt h =
    rw (add-zero i, at_other _ (i + 3) i _ (omega arith), at_other _ (i + 2) i _ (omega arith), at_other _ (i + 1) i _ (omega arith), at_same bs i _ (omega arith), div-one v)
with_word_at bs i v (suc zero) lt h =
    rw (at_other _ (i + 3) (i + 1) _ (omega arith), at_other _ (i + 2) (i + 1) _ (omega arith), at_same (set bs i (v % 256)) (i + 1) _ (simp length-set (omega arith)))
with_word_at bs i v (suc (suc zero)) lt h =
    rw (at_other _ (i + 3) (i + 2) _ (omega arith), at_same (set (set bs i (v % 256)) (i + 1) (v / 256 % 256)) (i + 2) _ (simp length-set (omega arith)))
with_word_at bs i v (suc (suc (suc zero))) lt h = rw (at_same (set (set (set bs i (v % 256)) (i + 1) (v / 256 % 256)) (i + 2) (v / 65536 % 256)) (i + 3) _ (simp length-set (omega arith)))
with_word_at bs i v (suc (suc (suc (suc b)))) lt h = absurd (omega arith)

-- the word that is stored is a copy of its bytes
pub word_pasted : (bs : List ℕ) (i v : ℕ) → i + 4 ≤ length bs → paste bs i (to_le_bytes w32 v) 4 ≡ with_word bs i v
word_pasted bs i v h =
    sym (rw (add-zero i) at (more 3 (lit< tt) (more 2 (lit< tt) (more 1 (lit< tt) (more 0 (lit< tt) (paste_none bs i s))))))
  where
    s : List ℕ
    s = to_le_bytes w32 v

    more : {t : List ℕ} (j : ℕ) → j < 4 → t ≡ paste bs i s j → set t (i + j) (at s j) ≡ paste bs i s (j + 1)
    more j k e = ap (λ (u : List ℕ). set u (i + j) (at s j)) e ∙ paste_more bs i s j 0 (omega arith) k
