-- The claims of specs/Claims.
use mathlib.Core.Path.{◌≡◌, sym, ◌∙◌, ap}
use mathlib.Core.List.{List, [], append-nil}
use Prim.Native.Nat.{ℕ, ◌+◌, ◌*◌, ◌/◌, ◌%◌, ◌^◌, ◌<◌}
use native.Mathlib.Nat.{zero-add, mod-lt, mod-eq_of_lt, div-add-mod', div-lt_iff_lt-mul}
use native.Mathlib.Omega.{arith}
use lib.ListN.{length}
use lib.Seq.{take_all}
use Rattle.layout.specs.Layout.{Below, block_size, payload_size, bit, packed, payload_byte, payload_entry}
use Rattle.layout.specs.Claims.{LaidOut, Fit, OnePayload, OneBlock, FitsTells, LeastWidth}
use Rattle.layout.proofs.Products.{below_mul, factor_pos}
use Rattle.layout.proofs.Strings.{number_of, number_lt}
use Rattle.layout.proofs.Lanes.{entry_bits_lem}
use Rattle.layout.proofs.Tables.{length_packed}
use Rattle.layout.proofs.Below.{below_table}
use Rattle.layout.proofs.RoundTrip.{entry_fits, entry_packed, packed_entry, packed_ext, bit_of_entry}
use Rattle.layout.proofs.Widths.{fits_of, of_fits, width_least, width_small, least_by_or}

-- numbers of n bits with the same bits are equal
same_bits : (x y n : ℕ) → x < 2 ^ n → y < 2 ^ n → ((j : ℕ) → j < n → bit x j ≡ bit y j) → x ≡ y
same_bits x y n h k same =
    sym (mod-eq_of_lt h) ∙ sym (number_of (bit x) x 0 n (λ j lt. ap (bit x) (zero-add j))) ∙ number_of (bit x) y 0 n (λ j lt. ap (bit x) (zero-add j) ∙ same j lt) ∙ mod-eq_of_lt k

-- bytes of the right length, and their entries
module _ (L n : ℕ) (bs : List ℕ) (size : length bs ≡ payload_size L n) (bytes : Below 256 bs) where
  unpacks : LaidOut L n (payload_entry L n bs) bs
  unpacks = record { size = size; bytes = bytes; bits = λ r l j h k i. bit_of_entry L n bs r l j bytes k i }

  entries_only : (e : ℕ → ℕ) → LaidOut L n e bs → Fit e (block_size L) n → (k : ℕ) → k < block_size L → e k ≡ payload_entry L n bs k
  entries_only e is fit k h =
      let pos : 0 < L = factor_pos 32 L k h in
      let lt : k / L < 32 = (div-lt_iff_lt-mul pos).1 h in
      let q : k / L * L + k % L ≡ k = div-add-mod' k L in
      same_bits (e k) (payload_entry L n bs k) n (fit k h) (entry_fits L n bs k)
      (λ j i. ap (λ (t : ℕ). bit (e t) j) (sym q) ∙ is.bits (k / L) (k % L) j lt (mod-lt k pos) i ∙ sym (bit_of_entry L n bs (k / L) (k % L) j bytes (mod-lt k pos) i) ∙ ap (λ (t : ℕ). bit (payload_entry L n bs t) j) q)

pub one_block : OneBlock
one_block L n bs size bytes = record { is = unpacks L n bs size bytes; fit = λ k h. entry_fits L n bs k; only = entries_only L n bs size bytes }

-- entries that fit, and their payload
module _ (L n : ℕ) (e : ℕ → ℕ) (fit : Fit e (block_size L) n) where
  packed_bytes : Below 256 (packed L n e)
  unfolding packed payload_byte
  packed_bytes = below_table (payload_byte L n e) (payload_size L n) (λ i. number_lt _ (entry_bits_lem L n e _) _ 8)

  back : (k : ℕ) → k < block_size L → payload_entry L n (packed L n e) k ≡ e k
  back k h = ap (λ (t : List ℕ). payload_entry L n t k) (sym (append-nil (packed L n e))) ∙ entry_packed L n e [] fit k h

  packs : LaidOut L n e (packed L n e)
  packs =
      record {
        size = length_packed L n e;
        bytes = packed_bytes;
        bits = λ r l j h k i.
            ap (λ (t : ℕ). bit t j) (sym (back (r * L + l) (omega (arith, below_mul L h)))) ∙ bit_of_entry L n (packed L n e) r l j packed_bytes k i;
      }

  payload_only : (bs : List ℕ) → LaidOut L n e bs → bs ≡ packed L n e
  payload_only bs is =
      sym (packed_ext L n e (payload_entry L n bs) (entries_only L n bs is.size is.bytes e is fit)
      ∙ packed_entry L n bs (omega (arith, is.size)) is.bytes ∙ take_all (4 * L * n) bs (omega (arith, is.size)))

pub one_payload : OnePayload
one_payload L n e fit = record { is = packs L n e fit; only = payload_only L n e fit }

pub fits_tells : FitsTells
fits_tells e m n = (of_fits e m n, fits_of e m n)

pub least_width_lem : LeastWidth
least_width_lem e m f = record { least = width_least e m f; most = width_small e m f; by_or = least_by_or e m f }
