-- The first place that `position` finds, or else the end.
use Rattle.std.proofs.Common.{rules, ◌==◌, ℕ, length, ap, ◌∙◌}
use Rattle.std.specs.Option.{unwrap_or}
use Rattle.std.proofs.lemmas.Iterator.{YieldsList-from_slice}
use Rattle.std.proofs.lemmas.Iterator.Search.{position_from_yields_List}
use borrow.Author.Tests.{tests}
use Rattle.tables.proofs.Going.{place_is}
use Rattle.tables.proofs.words.place_of.Goals as goal

pub returns-clause-value : goal.returns-clause-value
returns-clause-value c =
    let text = c.args.text.now in
    let test = λ (x : ℕ). x == c.args.letter in
    c.unwrap_or.ensures
    ∙ ap (λ r. unwrap_or r (length text)) (position_from_yields_List test _ _ _ c.position.ensures.ran (YieldsList-from_slice text (cc)) (λ x b q k. search (rules, tests)))
    ∙ place_is test text
