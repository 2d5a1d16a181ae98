-- The mode past values is the mode past their last.
use Rattle.std.proofs.Common.{◌≡◌, ◌-◌, Some, sym, ◌∙◌, ap, length, arith}
use Rattle.std.specs.List.{slice_get}
use Rattle.std.specs.Option.{option_copied}
use Rattle.std.proofs.lemmas.Option.{slice_get_within, get_or_from_slice_get}
use Rattle.order.specs.Order.{after}
use Rattle.order.proofs.Going.{after_end}
use Rattle.lists.proofs.store.past.Goals as goal

pub returns-in-Some : goal.returns-in-Some
returns-in-Some c =
    let vs = c.args.values.now in
    let last : slice_get vs (length vs - 1) ≡ Some c.in-Some.field-0.now = sym c.last.ensures.value ∙ ap option_copied c.in-Some.is in
    c.after.ensures ∙ ap (after c.args.mode) (sym (get_or_from_slice_get vs (length vs - 1) _ 0 last))
    ∙ sym (after_end c.args.mode vs (omega (arith, slice_get_within vs (length vs - 1) _ last)))
