-- What is claimed of packing and unpacking, over all lanes, widths and modes: each undoes the other (proofs/Trips). A value is below 2 to the
-- power 32 and a byte below 256.
use Rattle.std.specs.Prelude.{◌≡◌, true, List, ◌++◌, ℕ, ◌^◌, ◌≤◌, ◌<◌, length, take}
use Rattle.answers.specs.Refusals.{accepted}
use Rattle.answers.specs.Answers.{over}
use Rattle.layout.specs.Layout.{at, Below, block_size, payload_size, packed}
use Rattle.layout.specs.Width.{fits}
use Rattle.modes.specs.declared.Mode.{Mode}
use Rattle.modes.specs.Entries.{first_of, entries}
use Rattle.blocks.specs.Calls.{pack_refusal, pack_output, unpacked, unpack_output}

-- a block that fits, packed and unpacked, is the block; bytes behind the payload do not matter
abbrev pub BlockBack : Type 0
BlockBack =
    (L : ℕ) (m : Mode) (vs : List ℕ) (n : ℕ) (rest : List ℕ) → first_of m < 2 ^ 32 → length vs ≡ block_size L → Below (2 ^ 32) vs
    → fits (entries m (at vs)) (block_size L) n ≡ true → unpacked L m (packed L n (entries m (at vs)) ++ rest) n ≡ vs

-- any bytes, unpacked, fit the width that they were unpacked at; and packed at it again they are the payload that they begin with
abbrev pub UnpackedFits : Type 0
UnpackedFits = (L : ℕ) (m : Mode) (bs : List ℕ) (n : ℕ) → first_of m < 2 ^ 32 → n ≤ 32 → fits (entries m (at (unpacked L m bs n))) (block_size L) n ≡ true

abbrev pub PayloadBack : Type 0
PayloadBack =
    (L : ℕ) (m : Mode) (bs : List ℕ) (n : ℕ) → first_of m < 2 ^ 32 → n ≤ 32 → payload_size L n ≤ length bs → Below 256 bs
    → packed L n (entries m (at (unpacked L m bs n))) ≡ take (payload_size L n) bs

-- what the call packs, the call unpacks
abbrev pub CallsBack : Type 0
CallsBack =
    (L : ℕ) (m : Mode) (vs before out : List ℕ) (n : ℕ) → first_of m < 2 ^ 32 → Below (2 ^ 32) vs → accepted (pack_refusal L m vs (length before) n) ≡ true
    → block_size L ≤ length out → unpack_output L m (pack_output L m vs before n) out n ≡ over vs out
