-- Where reading stops, and what was taken, is as it is claimed.
use mathlib.Core.Path.{◌≡◌, ◌∙◌, ap}
use mathlib.Core.Bool.{true}
use mathlib.Core.List.{List}
use Prim.Native.Nat.{ℕ, ◌-◌, ◌≤◌}
use native.Mathlib.Nat.{le_refl}
use native.Mathlib.Omega.{arith}
use borrow.Author.Tests.{le-ltb}
use lib.ListN.{take}
use Rattle.layout.specs.Layout.{Below, is_lanes}
use Rattle.layout.proofs.Below.{below_take}
use Rattle.layout.proofs.LaneCounts.{lanes_of}
use Rattle.modes.specs.declared.Mode.{Mode}
use Rattle.answers.specs.Refusals.{accepted}
use Rattle.order.specs.Order.{starting, after_all}
use Rattle.bodies.specs.List.{most}
use Rattle.order.proofs.Beginnings.{starting_values}
use Rattle.bodies.specs.declared.Stop.{Stop}
use Rattle.bodies.specs.Body.{block_count}
use Rattle.bodies.specs.Reading.{entries_from, list_of}
use Rattle.bodies.specs.Stops.{body_stop}
use Rattle.bodies.proofs.Stops.{stop_refusal}
use Rattle.bodies.proofs.Kept.{kept_fewer, kept_left, kept_inside, kept_good, kept_mode, kept_whole, kept_most}
use Rattle.lists.specs.Calls.{read_refusal}
use Rattle.lists.specs.Parts.{check_stop}
use Rattle.lists.specs.Stops.{Stops, WhereItStops}
use Rattle.lists.proofs.Accepts.{read_exactly}
use Rattle.lists.proofs.Demand.{list_read}

module _ (L : ℕ) (m : Mode) (lanes : is_lanes L ≡ true) (count : ℕ) (bs : List ℕ) (few : count ≤ most) (bytes : Below 256 bs) where
  abbrev s : Stop
  s = body_stop L (starting m) count bs

  pub check_is : check_stop L m count bs ≡ s
  check_is = rw (lanes, le-ltb most count few)

  stops : Stops L m count bs s
  unfolding list_of
  stops =
      let pos = (lanes_of L lanes).0 in
      let size : ℕ = count - s.left in
      let refusal = stop_refusal (block_count L count) L (starting m) count bs in
      let front : List ℕ = take s.place bs in
      let read : accepted (read_refusal L m size front size) ≡ true =
      (read_exactly L m size front size).1 (record { lanes = lanes; few = omega arith; enough = le_refl size; body = kept_good L pos (starting m) count bs bytes }) in
      record {
        refused = λ room enough. refusal ∙ rw (lanes, le-ltb most count few, le-ltb room count enough);
        fewer = kept_fewer L pos (starting m) count bs bytes;
        left = kept_left L pos (starting m) count bs bytes;
        inside = kept_inside L pos (starting m) count bs bytes;
        whole = λ h. kept_whole L pos (starting m) count bs bytes (rw refusal at h);
        list = list_of L m size front;
        kept = list_read L m lanes size size front (below_take s.place bs bytes) read;
        next = kept_mode L pos (starting m) count bs bytes ∙ ap (after_all (starting m)) (starting_values m (entries_from L size front (block_count L size)));
        greatest = λ j p room enough h. kept_most L pos (starting m) count bs bytes j p enough ((read_exactly L m _ (take p bs) room).0 h).body;
      }

pub where_it_stops : (L : ℕ) (m : Mode) (count : ℕ) (bs : List ℕ) {r : Stop} → Below 256 bs → r ≡ check_stop L m count bs → WhereItStops L m count bs r
where_it_stops L m count bs bytes p lanes few = rw (p, check_is L m lanes count bs few bytes) (stops L m lanes count bs few bytes)
