-- What is claimed of the items that a checksum is of (proofs/Converted): each byte, and each value, converts to nothing but the number that it
-- is. So `checksum` and `checksum_from` of bytes and of values answer `sum_from` of the numbers themselves.
use denote.Builtin.{u8, u32}
use Rattle.std.specs.Prelude.{ℕ}
use Rattle.std.specs.contracts.prelude.AnyFrom.TheImpl.{ghosts as from_itself, dict as itself}
use Rattle.std.specs.contracts.prelude.AnyInto.TheImpl.{ghosts as into}
use Rattle.std.specs.contracts.prelude.U32FromU8.TheImpl.{ghosts as from_byte, dict as byte}
use Rattle.tables.specs.Tables.{Converts}

abbrev pub BytesAreNumbers : Type 0
BytesAreNumbers = Converts (into u8 u32 from_byte byte).converts (λ (x : ℕ). x)

abbrev pub ValuesAreNumbers : Type 0
ValuesAreNumbers = Converts (into u32 u32 (from_itself u32) (itself u32)).converts (λ (x : ℕ). x)
