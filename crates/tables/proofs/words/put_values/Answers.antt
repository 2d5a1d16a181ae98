-- Each value is put behind those that are there.
use Rattle.std.proofs.Common.{◌≡◌, length, refl, ap, ◌∙◌, add-one, arith}
use Rattle.layout.specs.Layout.{table}
use Rattle.layout.proofs.Tables.{length_table}
use Rattle.answers.proofs.Fronts.{front_none, front_put}
use Rattle.tables.specs.Words.{behind_of, list_from, listed_before, listed}
use Rattle.tables.proofs.Going.{front_full}
use Rattle.tables.proofs.words.put_values.Goals as goal

pub loop-value-init : goal.loop-value-init
unfolding table list_from listed_before
loop-value-init c = (omega arith, front_none _, refl, refl)

pub loop-value-preserved : goal.loop-value-preserved
unfolding table list_from listed_before
loop-value-preserved c =
    let k = c.loop-value.value-index in
    let f = listed c.args.text.now c.args.step in
    let v : c.next_listed-previous.result ≡ f k = c.next_listed-previous.ensures ∙ rw (c.loop-value.invariant.2, c.loop-value.invariant.3) in (
      omega arith,
      rw (add-one k, v) (front_put c.loop-value.invariant.1 k (length_table f k) (f k) (omega arith)),
      rw add-one (c.behind-rest.ensures.result_value ∙ ap (behind_of 44) c.loop-value.invariant.2),
      rw add-one v,
    )

pub returns : goal.returns
returns c =
    let f = listed c.args.text.now c.args.step in
    let all : c.loop-value.value-index ≡ length c.args.values.now = omega arith in
    front_full c.loop-value.invariant.1 (length_table f c.loop-value.value-index ∙ all) ∙ ap (table f) all
