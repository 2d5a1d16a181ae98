-- Packing and unpacking undo each other, in every mode, over all lanes and widths.
use mathlib.Core.Path.{◌≡◌, sym, ◌∙◌, ap}
use mathlib.Core.List.{List, ◌++◌}
use Prim.Native.Nat.{ℕ, ◌≤◌, ◌<◌, ◌^◌}
use native.Mathlib.Nat.{lt_of_lt_of_le}
use native.Mathlib.Omega.{arith}
use lib.ListN.{length, drop, length-append}
use lib.Pow.{pow_mono}
use Rattle.layout.specs.Layout.{at, block_size, payload_size, packed, payload_entry}
use Rattle.answers.specs.Answers.{over}
use Rattle.answers.proofs.Answers.{overwritten}
use Rattle.layout.proofs.Tables.{table_at, table_of, length_packed}
use Rattle.layout.proofs.RoundTrip.{entry_packed, packed_entry, packed_ext, entry_fits}
use Rattle.layout.proofs.Widths.{fits_of, of_fits}
use Rattle.modes.specs.declared.Mode.{Mode}
use Rattle.modes.specs.Entries.{first_of, entries, values}
use Rattle.modes.proofs.Undo.{values_entries, entries_values, entries_ext, values_ext}
use Rattle.blocks.specs.Calls.{unpacked, pack_refusal, unpack_refusal, pack_output, unpack_output}
use Rattle.blocks.specs.Claims.{BlockBack, UnpackedFits, PayloadBack, CallsBack}
use Rattle.blocks.proofs.Tests.{Packable, pack_exactly, unpack_exactly}

-- a block that fits, packed and unpacked, is the block; bytes behind the payload do not matter
pub packed_unpacked : BlockBack
unfolding unpacked
packed_unpacked L m vs n rest first size words fit =
    table_of (values m (payload_entry L n (packed L n (entries m (at vs)) ++ rest))) (block_size L) vs size
    (λ k h. sym (values_ext m (first_of m) (payload_entry L n (packed L n (entries m (at vs)) ++ rest)) (entries m (at vs)) k (λ i le. entry_packed L n (entries m (at vs)) rest (of_fits _ _ _ fit) i (omega arith))
    ∙ values_entries m (at vs) first k (λ i le. words i)))

-- the entries of an unpacked block are those of its payload
module _ (L : ℕ) (m : Mode) (bs : List ℕ) (n : ℕ) (first : first_of m < 2 ^ 32) (narrow : n ≤ 32) where
  unpacked_entries : (k : ℕ) → k < block_size L → entries m (at (unpacked L m bs n)) k ≡ payload_entry L n bs k
  unfolding unpacked
  unpacked_entries k h =
      entries_ext m (at (unpacked L m bs n)) (values m (payload_entry L n bs)) k (λ i le. table_at (values m (payload_entry L n bs)) (block_size L) i (omega arith))
      ∙ entries_values m (payload_entry L n bs) first k (λ i le. lt_of_lt_of_le (entry_fits L n bs i) (pow_mono narrow))

-- any bytes, unpacked, fit the width that they were unpacked at
pub unpacked_fits : UnpackedFits
unpacked_fits L m bs n first narrow = fits_of _ (block_size L) n (λ k h. rw (unpacked_entries L m bs n first narrow k h) (entry_fits L n bs k))

-- any payload, unpacked and packed at the same width, is the payload
pub unpacked_packed : PayloadBack
unpacked_packed L m bs n first narrow size bytes = packed_ext L n _ (payload_entry L n bs) (unpacked_entries L m bs n first narrow) ∙ packed_entry L n bs size bytes

-- what packing wrote, unpacking reads back: from the calls' definitions alone
pub read_back_lem : CallsBack
read_back_lem L m vs before out n first words ok room =
    let p : Packable L m vs (length before) n = (pack_exactly L m vs (length before) n).0 ok in
    let bs : List ℕ = over (packed L n (entries m (at vs))) before in
    let wrote : pack_output L m vs before n ≡ bs = overwritten (pack_refusal L m vs (length before) n) (packed L n (entries m (at vs))) before ok in
    let long : payload_size L n ≤ length bs = simp (length-append, length_packed L n (entries m (at vs))) (omega arith) in
    let able = (unpack_exactly L (length bs) (length out) n).1 (record { lanes = p.lanes; width = p.width; enough = room; whole = long }) in
    ap (λ (t : List ℕ). unpack_output L m t out n) wrote
    ∙ overwritten (unpack_refusal L (length bs) (length out) n) (unpacked L m bs n) out able
    ∙ ap (λ (t : List ℕ). over t out) (packed_unpacked L m vs n (drop (length (packed L n (entries m (at vs)))) before) first p.block words p.fit)
