-- Each call is accepted exactly when every one of its tests passes.
use mathlib.Core.Path.{◌≡◌, refl, sym, ◌∙◌, ap}
use mathlib.Core.Bool.{Bool, true, false, not}
use mathlib.Core.Logic.{◌↔◌}
use mathlib.Core.List.{List}
use Prim.Native.Nat.{ℕ, ◌≤◌, ◌<◌, min}
use borrow.Author.Tests.{ltb-false, lt-ltb, le-ltb, not-false}
use lib.Dec.{ltb}
use lib.ListN.{length}
use Rattle.modes.specs.declared.Mode.{Mode}
use Rattle.answers.specs.declared.Refusal.TheVariants.{BadLanes, NoRoom, TooMany, OutOfOrder}
use Rattle.std.specs.Prelude.{Result, Ok, Err}
use Rattle.answers.specs.declared.Refusal.{Refusal}
use Rattle.answers.specs.Answers.{answer}
use Rattle.answers.proofs.Answers.{passes}
use Rattle.answers.specs.Refusals.{Tested, accept, accepted, refuse, or_else}
use Rattle.layout.specs.Layout.{block_size, is_lanes}
use Rattle.lanes.specs.Sizes.{lanes_refusal}
use Rattle.answers.proofs.Refusals.{passed, both}
use Rattle.order.specs.Order.{starting, ordered}
use Rattle.bodies.specs.List.{most}
use Rattle.bodies.specs.Body.{body_of}
use Rattle.bodies.specs.Reading.{block_refusal, body_refusal}
use Rattle.lists.specs.Calls.{measure_refusal, writing_refusal, write_refusal, read_refusal}
use Rattle.lists.specs.Parts.{read_block_refusal}

-- lanes that are taken are 1, 4 or 8, and are handed on
pub lanes_taken : (L : ℕ) {r : Result ℕ Refusal} {few : ℕ} → r ≡ answer (lanes_refusal L) L → r ≡ Ok few → (is_lanes L ≡ true) × (few ≡ L)
lanes_taken L is ok =
    let p = passes (lanes_refusal L) L (sym is ∙ ok) in
    (not-false _ (passed (not (is_lanes L)) BadLanes accept (ap accepted p.0)).0, p.1)

-- what measuring accepts
pub record Measurable (L : ℕ) (m : Mode) (vs : List ℕ) : Type 0 where
  pub lanes : is_lanes L ≡ true
  pub few : length vs ≤ most
  pub order : ordered (starting m) vs ≡ true

pub measure_exactly : (L : ℕ) (m : Mode) (vs : List ℕ) → (accepted (measure_refusal L m vs) ≡ true) ↔ Measurable L m vs
unfolding measure_refusal
measure_exactly L m vs = (there, λ s. rw (s.lanes, le-ltb most (length vs) s.few, s.order))
  where
    there : accepted (measure_refusal L m vs) ≡ true → Measurable L m vs
    there h =
        let a = passed _ BadLanes _ h in
        let b = passed _ TooMany _ a.1 in
        let c = passed _ OutOfOrder accept b.1 in
        record { lanes = not-false _ a.0; few = ltb-false most (length vs) b.0; order = not-false _ c.0 }

-- the lanes that are handed on where the values are a list
pub list_checked : (L : ℕ) (m : Mode) (vs : List ℕ) {r : Result ℕ Refusal} {few : ℕ} → r ≡ answer (measure_refusal L m vs) L → r ≡ Ok few → Measurable L m vs × (few ≡ L)
list_checked L m vs is ok =
    let p = passes (measure_refusal L m vs) L (sym is ∙ ok) in
    ((measure_exactly L m vs).0 (ap accepted p.0), p.1)

-- what writing accepts
pub record Writable (L : ℕ) (m : Mode) (vs : List ℕ) (room : ℕ) : Type 0 where
  pub list : Measurable L m vs
  pub enough : length (body_of L m vs) ≤ room

-- what the values are refused for, and then 4
pub writing_parts : (L : ℕ) (m : Mode) (vs : List ℕ) (size room : ℕ) → writing_refusal L m vs size room ≡ or_else (measure_refusal L m vs) (refuse (ltb room size) NoRoom accept)
unfolding measure_refusal
writing_parts L m vs size room = go (not (is_lanes L)) (ltb most (length vs)) (not (ordered (starting m) vs))
  where
    go : (a b c : Bool)
        → refuse a BadLanes (refuse b TooMany (refuse c OutOfOrder (refuse (ltb room size) NoRoom accept)))
        ≡ or_else (refuse a BadLanes (refuse b TooMany (refuse c OutOfOrder accept))) (refuse (ltb room size) NoRoom accept)
    go true b c = refl
    go false true c = refl
    go false false true = refl
    go false false false = refl

-- it stops where the values are refused, and else where there is no room
pub write_stops : (L : ℕ) (m : Mode) (vs : List ℕ) (room : ℕ) {k : Refusal} → measure_refusal L m vs ≡ Err k → write_refusal L m vs room ≡ Err k
write_stops L m vs room h = rw (writing_parts L m vs (length (body_of L m vs)) room, h)

pub write_no_room : (L : ℕ) (m : Mode) (vs : List ℕ) (room : ℕ) → Measurable L m vs → room < length (body_of L m vs) → write_refusal L m vs room ≡ Err NoRoom
write_no_room L m vs room able h = rw (writing_parts L m vs (length (body_of L m vs)) room, (measure_exactly L m vs).1 able, lt-ltb room (length (body_of L m vs)) h)

pub write_exactly : (L : ℕ) (m : Mode) (vs : List ℕ) (room : ℕ) → (accepted (write_refusal L m vs room) ≡ true) ↔ Writable L m vs room
write_exactly L m vs room = (there, λ s. rw (writing_parts L m vs (length (body_of L m vs)) room, (measure_exactly L m vs).1 s.list, le-ltb room (length (body_of L m vs)) s.enough))
  where
    there : accepted (write_refusal L m vs room) ≡ true → Writable L m vs room
    there h =
        let a = both (measure_refusal L m vs) _ (rw (writing_parts L m vs (length (body_of L m vs)) room) at h) in
        let b = passed _ NoRoom accept a.1 in
        record { list = (measure_exactly L m vs).0 a.0; enough = ltb-false room (length (body_of L m vs)) b.0 }

-- what reading accepts
pub record Readable (L : ℕ) (m : Mode) (count : ℕ) (bs : List ℕ) (room : ℕ) : Type 0 where
  pub lanes : is_lanes L ≡ true
  pub few : count ≤ most
  pub enough : count ≤ room
  pub body : accepted (body_refusal L (starting m) count bs) ≡ true

-- it stops where the body does
pub read_stops : (L : ℕ) (m : Mode) (count : ℕ) (bs : List ℕ) (room : ℕ) {t : Tested} → is_lanes L ≡ true → count ≤ most → count ≤ room → body_refusal L (starting m) count bs ≡ t → read_refusal L m count bs room ≡ t
read_stops L m count bs room lanes few enough h = rw (lanes, le-ltb most count few, le-ltb room count enough) h

pub read_exactly : (L : ℕ) (m : Mode) (count : ℕ) (bs : List ℕ) (room : ℕ) → (accepted (read_refusal L m count bs room) ≡ true) ↔ Readable L m count bs room
read_exactly L m count bs room = (there, λ s. rw (s.lanes, le-ltb most count s.few, le-ltb room count s.enough) s.body)
  where
    there : accepted (read_refusal L m count bs room) ≡ true → Readable L m count bs room
    there h =
        let a = passed _ BadLanes _ h in
        let b = passed _ TooMany _ a.1 in
        let c = passed _ NoRoom _ b.1 in
        record { lanes = not-false _ a.0; few = ltb-false most count b.0; enough = ltb-false room count c.0; body = c.1 }

-- what reading a block by itself accepts
pub record BlockReadable (L : ℕ) (m : Mode) (count : ℕ) (bs : List ℕ) (room : ℕ) : Type 0 where
  pub lanes : is_lanes L ≡ true
  pub enough : min (block_size L) count ≤ room
  pub block : accepted (block_refusal L m (min (block_size L) count) bs) ≡ true

pub read_block_stops : (L : ℕ) (m : Mode) (count : ℕ) (bs : List ℕ) (room : ℕ) {t : Tested} → is_lanes L ≡ true → min (block_size L) count ≤ room
    → block_refusal L m (min (block_size L) count) bs ≡ t → read_block_refusal L m count bs room ≡ t
read_block_stops L m count bs room lanes enough h = rw (lanes, le-ltb room (min (block_size L) count) enough) h

pub read_block_exactly : (L : ℕ) (m : Mode) (count : ℕ) (bs : List ℕ) (room : ℕ) → (accepted (read_block_refusal L m count bs room) ≡ true) ↔ BlockReadable L m count bs room
read_block_exactly L m count bs room = (there, λ s. rw (s.lanes, le-ltb room (min (block_size L) count) s.enough) s.block)
  where
    there : accepted (read_block_refusal L m count bs room) ≡ true → BlockReadable L m count bs room
    there h =
        let a = passed _ BadLanes _ h in
        let b = passed _ NoRoom _ a.1 in
        record { lanes = not-false _ a.0; enough = ltb-false room (min (block_size L) count) b.0; block = b.1 }
