-- The entries of the first values are there.
use Rattle.std.proofs.Common.{replicate}
use Rattle.lists.proofs.Stores.{Filling}
use Rattle.lists.proofs.store.filled_entries.Given as goal

abbrev pub invariant-loop-i : goal.invariant-loop-i
invariant-loop-i l = Filling l.fn.mode l.values (replicate 256 0) l.running l.i l.block
