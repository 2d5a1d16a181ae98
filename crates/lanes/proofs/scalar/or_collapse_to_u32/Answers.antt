-- Past the eighth lane there is nothing to or.
use Rattle.std.proofs.Common.{◌≡◌, [], length, ◌∙◌, arith, rules}
use Rattle.std.proofs.lemmas.Fn.{fold_over, fronts}
use Rattle.std.specs.Iterator.Adapters.{take_steps}
use Rattle.std.proofs.lemmas.Iterator.{YieldsList-from_take, YieldsList-from_slice}
use Rattle.layout.specs.Layout.{at}
use Rattle.layout.specs.Width.{or_all}
use Rattle.lanes.proofs.Joined.{or_snoc, or_front}
use Rattle.layout.proofs.Joined.{or_none}
use Rattle.lanes.proofs.scalar.or_collapse_to_u32.Goals as goal

pub returns : goal.returns
returns c =
    let used = YieldsList-from_take {s = c.take.result} c.args.lanes (YieldsList-from_slice c.args.accumulator (search rules)) c.take.ensures.count in
    fold_over (take_steps fronts) (λ y. y.now) _ (λ ys a. a ≡ or_all (at ys) (length ys)) _ (λ ys a x b f' j k. search (rules, or_snoc))
    c.take.result _ _ _ used.runs (or_none (at [])) c.fold.ensures.ran
    ∙ or_front c.args.accumulator c.args.lanes (omega arith)
