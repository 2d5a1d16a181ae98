-- The loop's invariant: the first l lanes have their numbers.
use Rattle.std.proofs.Common.{◌≡◌, ℕ, ◌<◌, length}
use Rattle.layout.specs.Layout.{at}
use Rattle.blocks.proofs.rows.row_of.Given as goal

abbrev pub invariant-loop-l : goal.invariant-loop-l
invariant-loop-l g l = (length l.row ≡ 8) × ((k : ℕ) → k < l.l → goal.F-post g l.number k (at l.row k))
