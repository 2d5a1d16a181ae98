-- The blocks before `place` have been written, and those behind it stand there.
use Rattle.std.proofs.Common.{◌-◌}
use Rattle.lists.proofs.Fetches.{Fetching}
use Rattle.lists.proofs.fetch.fetch_body.Given as goal

abbrev pub invariant-loop-done : goal.invariant-loop-done
invariant-loop-done l = Fetching l.lanes l.initial.running l.count l.body l.initial.values l.running l.place l.done l.values

abbrev pub decreases-loop-done : goal.decreases-loop-done
decreases-loop-done l = l.count - l.done
