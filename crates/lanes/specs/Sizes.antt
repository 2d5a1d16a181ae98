-- "L is the number of lanes: 1, 4 or 8." and "n is the width, 0 to 32": the first two of document 01's numbers of refusal.
use Rattle.std.specs.Prelude.{not, ℕ, ltb}
use Rattle.answers.specs.declared.Refusal.TheVariants.{BadLanes, BadWidth}
use Rattle.answers.specs.Refusals.{Tested, accept, refuse}
use Rattle.layout.specs.Layout.{is_lanes}

abbrev pub lanes_refusal : ℕ → Tested
lanes_refusal L = refuse (not (is_lanes L)) BadLanes accept

abbrev pub bits_refusal : ℕ → Tested
bits_refusal n = refuse (ltb 32 n) BadWidth accept
