-- 0 apart, the answer is the definition's.
use Rattle.std.proofs.Common.{arith}
use Rattle.layout.specs.Width.{significant}
use Rattle.layout.proofs.Joined.{significant_of}
use Rattle.lanes.proofs.most_significant_bit.Goals as goal

pub returns-then-v-eq0 : goal.returns-then-v-eq0
unfolding significant
returns-then-v-eq0 c = rw c.if-v-eq0.true

pub returns-else-v-eq0 : goal.returns-else-v-eq0
returns-else-v-eq0 c = significant_of c.args.v (omega arith)
