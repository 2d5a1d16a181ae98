-- Each lane has the value that the closure reads.
use Rattle.std.proofs.Common.{rules}
use Rattle.blocks.proofs.block.Block.row.Goals as goal

pub returns : goal.returns
returns c = rw (← c.self.view_is) (λ l h. let read = c.row_of.ensures l h in search rules)
