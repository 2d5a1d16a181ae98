-- As many pairs as `take_while` lets through.
use Rattle.std.proofs.Common.{rules, ◌∙◌}
use Rattle.std.proofs.lemmas.Iterator.{YieldsList-from_slice, YieldsList-from_zip}
use Rattle.std.proofs.lemmas.Iterator.Consumers.{YieldsList-at, count_from_yields_List}
use Rattle.std.proofs.lemmas.Iterator.Search.{YieldsList-from_take_while}
use borrow.Author.Tests.{tests}
use Rattle.tables.proofs.Going.{common_is}
use Rattle.tables.proofs.buffers.same_front.Goals as goal

pub returns : goal.returns
returns g c =
    let items = c.args.items.now in
    let others = c.args.others.now in
    count_from_yields_List c.take_while.result _ c.count.ensures.ran
    (YieldsList-from_take_while _ (λ p. g.T.PartialEq.eq p.0 p.1) (YieldsList-at c.take_while.ensures.source (YieldsList-from_zip (YieldsList-from_slice items (cc)) (YieldsList-from_slice others (cc)))) c.take_while.ensures.closure c.take_while.ensures.done (λ x b q k. search (rules, tests)))
    ∙ common_is g.T.PartialEq.eq items others
