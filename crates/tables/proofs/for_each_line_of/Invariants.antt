-- Where it runs on the lines that are left, it has run on all.
use Rattle.std.proofs.Common.{Ok, length}
use Rattle.std.specs.Fn.{CalledAt}
use Rattle.std.specs.List.{FoldsTo}
use Rattle.tables.specs.Tables.{lines}
use Rattle.tables.proofs.for_each_line_of.Given as goal

abbrev pub invariant-loop-rest : goal.invariant-loop-rest
invariant-loop-rest g l =
    goal.F-IsAlwaysCallable g l.run
    × ((last : _) → FoldsTo (λ p line q. CalledAt g.F.FnMut p line (Ok tt) q) l.run (lines l.rest) last → FoldsTo (λ p line q. CalledAt g.F.FnMut p line (Ok tt) q) l.fn.run (lines l.text) last)

abbrev pub decreases-loop-rest : goal.decreases-loop-rest
decreases-loop-rest g l = length l.rest
