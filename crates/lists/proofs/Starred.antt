-- The starred cases hold, computed from the definitions.
use mathlib.Core.Path.{◌≡◌, refl}
use lib.ListN.{length}
use Rattle.layout.specs.Layout.{bit, of_bits, table, entry_bits, byte_bits, payload_byte, packed, payload_entry, is_lanes}
use Rattle.layout.specs.Width.{fits, least_from, least_width}
use Rattle.blocks.specs.Calls.{unpacked}
use Rattle.order.specs.Order.{after_all, ordered, entries_of, values_of}
use Rattle.bodies.specs.Body.{block, block_count, blocks_of, body_of}
use Rattle.bodies.specs.Reading.{all_zero, block_refusal, refusal_from, entries_from, list_of}
use Rattle.lists.specs.Starred.{starred, StarredHold}

pub starred_hold : StarredHold
unfolding starred packed table payload_byte entry_bits byte_bits payload_entry of_bits bit fits least_from least_width is_lanes unpacked after_all ordered entries_of values_of block block_count blocks_of body_of all_zero block_refusal refusal_from entries_from list_of
starred_hold = refl

-- the ten starred cases are 22 claims
pub starred_count : length starred ≡ 22
unfolding starred
starred_count = refl
