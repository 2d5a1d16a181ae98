-- `fold` adds the number of each item in turn.
use Rattle.std.proofs.Common.{rules, ◌+◌, ◌*◌, ◌%◌, arith}
use Rattle.std.proofs.lemmas.Iterator.{YieldsList-from_slice}
use Rattle.std.proofs.lemmas.Iterator.Consumers.{fold_from_yields_List}
use Rattle.tables.specs.Tables.{sum_from}
use Rattle.tables.proofs.checksum_from.Goals as goal

pub returns : goal.returns
unfolding sum_from
returns g c =
    λ number gives.
    fold_from_yields_List _ (λ sum x. (sum * 31 + number x) % 4294967296) c.args.start _ c.fold.ensures.ran (YieldsList-from_slice c.args.items.now (cc)) (λ a x b q k. (search rules, grind (arith, k, gives)))
