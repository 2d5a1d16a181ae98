-- What the operations on a row do to the bits that it holds.
use mathlib.Core.Path.{◌≡◌, ◌∙◌, ap, ap₂}
use mathlib.Core.List.{List}
use Prim.Native.Nat.{ℕ, ◌+◌, ◌*◌, ◌-◌, ◌/◌, ◌%◌, ◌^◌, ◌≤◌, ◌<◌}
use native.Mathlib.Omega.{arith}
use lib.Bits.{bit_or, bit_and, and_mask}
use Rattle.layout.specs.Layout.{at, of_bits}
use Rattle.lanes.specs.Rows.{IsRow}
use Rattle.lanes.proofs.Rows.{lane_of}
use Rattle.layout.proofs.Strings.{Bits, number_shr, number_mod, join_short, join_long}
use Rattle.blocks.specs.kernel.Registers.{HoldsBits}

module _ {L : ℕ} {lane : ℕ → ℕ → ℕ} (lanes : L ≤ 8) where
  -- a row of zeros holds no bits
  pub holds_none : {s m : ℕ} {x : List ℕ} → m ≡ 0 → IsRow x (λ l. 0) → HoldsBits L lane s m x
  unfolding of_bits
  holds_none e zeros = record { bits = λ l h. rw e (lane_of zeros l (omega arith)) }

  module _ (lane_bits : (l : ℕ) → Bits (lane l)) where
    -- shifted down by c, it holds the bits above the first c
    pub holds_shr : (c : ℕ) {s t k m : ℕ} {x z : List ℕ} → HoldsBits L lane s k x → IsRow z (λ l. at x l / 2 ^ c) → k ≡ c + m → s + c ≡ t → HoldsBits L lane t m z
    holds_shr c {s} {t} {k} {m} {x} {z} p shifted e f =
        record {
          bits = λ l h.
              lane_of shifted l (omega arith)
              ∙ ap (λ (q : ℕ). q / 2 ^ c) (p.bits l h ∙ ap (of_bits (lane l) s) e)
              ∙ number_shr (lane l) (lane_bits l) s c m ∙ ap (λ (q : ℕ). of_bits (lane l) q m) f;
        }

    -- under a mask of c ones, it holds the first c
    pub holds_mask : (c m : ℕ) {s k : ℕ} {x : List ℕ} → HoldsBits L lane s k x → {mask : ℕ} {ones v : List ℕ} → mask ≡ 2 ^ c - 1 → IsRow ones (λ l. mask)
        → IsRow v (λ l. bit_and (at x l) (at ones l)) → k ≡ c + m → HoldsBits L lane s c v
    holds_mask c m {s} {k} {x} p is row masked e =
        record {
          bits = λ l h.
              lane_of masked l (omega arith)
              ∙ ap (bit_and (at x l)) (lane_of row l (omega arith) ∙ is) ∙ and_mask (at x l) c
              ∙ ap (λ (q : ℕ). q % 2 ^ c) (p.bits l h ∙ ap (of_bits (lane l) s) e)
              ∙ number_mod (lane l) (lane_bits l) s c m;
        }

    -- x holds c bits and y the m bits above them: y is shifted up by c and or-ed with x
    module _ {s t c m : ℕ} {x y : List ℕ} (p : HoldsBits L lane s c x) (q : HoldsBits L lane t m y) (f : s + c ≡ t) {u j : List ℕ}
        (shifted : IsRow u (λ l. at y l * 2 ^ c % 2 ^ 32)) (joined : IsRow j (λ l. bit_or (at x l) (at u l))) where
      on_top : (l : ℕ) → l < L → at j l ≡ bit_or (of_bits (lane l) s c) (of_bits (lane l) (s + c) m * 2 ^ c % 2 ^ 32)
      on_top l h =
          lane_of joined l (omega arith)
          ∙ ap₂ bit_or (p.bits l h) (lane_of shifted l (omega arith) ∙ ap (λ (k : ℕ). k * 2 ^ c % 2 ^ 32) (rw f (q.bits l h)))

      -- the word has room for them all
      pub holds_both : c + m ≤ 32 → HoldsBits L lane s (c + m) j
      holds_both g = record { bits = λ l h. on_top l h ∙ join_short (lane l) (lane_bits l) 32 s c m g }

      -- they fill it
      pub holds_word : c ≤ 32 → 32 ≤ c + m → HoldsBits L lane s 32 j
      holds_word g k = record { bits = λ l h. on_top l h ∙ join_long (lane l) (lane_bits l) 32 s c m g k }
