-- What is not refused can be measured.
use Rattle.lists.proofs.Accepts.{list_checked}
use Rattle.lists.proofs.measure.Goals as goal

pub body_length-requires : goal.body_length-requires
body_length-requires c = (list_checked c.args.lanes c.args.mode c.args.values.now c.check_list.ensures.value c.in_ok-lanes.was).0.few
