-- What was taken where reading stops: it is the body of a list by itself, and no greater number of blocks is.
use mathlib.Core.Path.{◌≡◌, refl, sym, ◌∙◌, ap}
use mathlib.Core.Bool.{Bool, true, false}
use mathlib.Core.List.{List, ◌++◌, append_assoc}
use Prim.Native.Nat.{ℕ, zero, suc, ◌+◌, ◌*◌, ◌-◌, ◌≤◌, ◌<◌, min}
use native.Mathlib.Nat.{zero-mul, min-le_left}
use native.Mathlib.Numerals.{one-add}
use native.Mathlib.Omega.{arith}
use borrow.Author.Tests.{ltb-false}
use lib.Dec.{ltb}
use lib.ListN.{length, take, drop, length-drop, take-append-drop}
use lib.Seq.{take-append_seam}
use Rattle.layout.specs.Layout.{Below, block_size}
use Rattle.layout.proofs.Below.{below_take, below_drop}
use Rattle.modes.specs.declared.Mode.{Mode}
use Rattle.answers.specs.declared.Refusal.TheVariants.{LeftOver}
use Rattle.answers.specs.Refusals.{accept, accepted}
use Rattle.answers.proofs.Refusals.{apart, passed, both}
use Rattle.order.specs.Order.{after_all, values_of}
use Rattle.order.proofs.Steps.{after_append, values_append}
use Rattle.bodies.specs.declared.Stop.{Stop}
use Rattle.bodies.specs.Body.{block, block_count}
use Rattle.bodies.specs.Reading.{size_at, entries_at, values_at, block_refusal, refusal_from, body_refusal, entries_from, list_of}
use Rattle.bodies.specs.Stops.{past, stop_from, body_stop}
use Rattle.bodies.proofs.Tests.{Passed, block_passed, block_passes}
use Rattle.bodies.proofs.Block.{block_written, front_written, Again, again}
use Rattle.bodies.proofs.Whole.{suc_times, blocks_enough}
use Rattle.bodies.proofs.Stops.{taking, stop_taken, stop_refused, stop_refusal}
use Rattle.bodies.proofs.Onward.{blocks_first}

-- the bytes up to the place of s, by themselves
pub record Taken (L : ℕ) (m : Mode) (count : ℕ) (bs : List ℕ) (b : ℕ) (s : Stop) : Type 0 where
  pub within : s.place ≤ length bs
  pub fewer : s.blocks ≤ b
  pub rest : s.left ≡ count - s.blocks * block_size L
  pub whole : accepted s.outcome ≡ true → (s.blocks ≡ b) × (s.place ≡ length bs)
  pub good : accepted (refusal_from L m (count - s.left) (take s.place bs) s.blocks) ≡ true
  pub next : s.mode ≡ after_all m (values_of m (entries_from L (count - s.left) (take s.place bs) s.blocks))

-- one block more in front
module _ (L : ℕ) (m : Mode) (count : ℕ) (bs : List ℕ) (b : ℕ) (s : Stop) (bytes : Below 256 bs) (e : accepted (block_refusal L m (min (block_size L) count) bs) ≡ true)
    (more : Taken L (after_all m (values_at L m (min (block_size L) count) bs)) (count - block_size L) (drop (size_at L bs) bs) b s) where
  first : Passed L m (min (block_size L) count) bs
  first = block_passed L m (min (block_size L) count) bs e

  front : Again L m (min (block_size L) count) bs (take (size_at L bs + s.place) bs) (take s.place (drop (size_at L bs) bs))
  front =
      again L m (min (block_size L) count) bs (take (size_at L bs + s.place) bs) (take s.place (drop (size_at L bs) bs)) (min-le_left (block_size L) count) first
      (front_written L m (min (block_size L) count) bs first bytes s.place)

  same : min (block_size L) (count - s.left) ≡ min (block_size L) count
  same = omega (arith, more.rest)

  less : count - s.left - block_size L ≡ count - block_size L - s.left
  less = omega arith

  taken_more : Taken L m count bs (suc b) (past (taking L m count bs) s)
  unfolding refusal_from entries_from
  taken_more =
      record {
        within = omega (arith, first.frame.whole, more.within, length-drop (size_at L bs) bs);
        fewer = omega (arith, more.fewer);
        rest = rw one-add (omega (arith, more.rest, suc_times s.blocks (block_size L)));
        whole = λ h. (omega (arith, (more.whole h).0), omega (arith, first.frame.whole, (more.whole h).1, length-drop (size_at L bs) bs));
        good = rw (one-add s.blocks, same, block_passes L m (min (block_size L) count) (take (size_at L bs + s.place) bs) front.passes, front.entries, front.behind, less) more.good;
        next = more.next ∙ rw (one-add s.blocks, same, front.entries, front.behind, less, values_append, after_append);
      }

pub taken : (b L : ℕ) (m : Mode) (count : ℕ) (bs : List ℕ) → Below 256 bs → Taken L m count bs b (stop_from L m count bs b)
unfolding stop_from refusal_from entries_from values_of after_all
taken zero L m count bs bytes =
    record {
      within = omega arith;
      fewer = omega arith;
      rest = omega (arith, zero-mul (block_size L));
      whole = λ h. (refl, omega (arith, ltb-false 0 (length bs) (passed (ltb 0 (length bs)) LeftOver accept h).0));
      good = refl;
      next = refl;
    }
taken (suc b) L m count bs bytes = go (accepted (block_refusal L m (min (block_size L) count) bs)) refl (taken b L _ (count - block_size L) (drop (size_at L bs) bs) (below_drop (size_at L bs) bs bytes))
  where
    go : (t : Bool) → accepted (block_refusal L m (min (block_size L) count) bs) ≡ t
        → Taken L (after_all m (values_at L m (min (block_size L) count) bs)) (count - block_size L) (drop (size_at L bs) bs) b
        (stop_from L (after_all m (values_at L m (min (block_size L) count) bs)) (count - block_size L) (drop (size_at L bs) bs) b)
        → Taken L m count bs (suc b) (stop_from L m count bs (suc b))
    go false e more =
        rw (stop_refused L m count bs e b)
        (record {
          within = omega arith;
          fewer = omega arith;
          rest = omega (arith, zero-mul (block_size L));
          whole = λ h. absurd (apart (sym h ∙ e));
          good = refl;
          next = refl;
        })
    go true e more = rw (stop_taken L m count bs e b) (taken_more L m count bs b _ bytes e more)

-- no more can be taken: j blocks that begin the bytes are no more than were taken, where they are accepted by themselves
pub most_taken : (j b L : ℕ) (m : Mode) (count : ℕ) (bs : List ℕ) (p : ℕ) → j ≤ b → Below 256 bs
    → accepted (refusal_from L m (min count (j * block_size L)) (take p bs) j) ≡ true → j ≤ (stop_from L m count bs b).blocks
unfolding refusal_from
most_taken zero b L m count bs p few bytes h = omega arith
most_taken (suc j) zero L m count bs p few bytes h = absurd (omega arith)
most_taken (suc j) (suc b) L m count bs p few bytes h =
    let k : ℕ = min (block_size L) count in
    let c : ℕ = min count (suc j * block_size L) in
    let first : List ℕ = take p bs in
    let rest : List ℕ = drop (size_at L first) first in
    let same : min (block_size L) c ≡ k = omega (arith, suc_times j (block_size L)) in
    let less : c - block_size L ≡ min (count - block_size L) (j * block_size L) = omega (arith, suc_times j (block_size L)) in
    let o = both (block_refusal L m (min (block_size L) c) first) _ h in
    let q : Passed L m k first = block_passed L m k first (rw same at o.0) in
    let whole : bs ≡ block L (entries_at L k first) ++ (rest ++ drop p bs) =
    sym (take-append-drop p bs) ∙ ap (λ (t : List ℕ). t ++ drop p bs) (block_written L m k first q (below_take p bs bytes)) ∙ append_assoc (block L (entries_at L k first)) rest (drop p bs) in
    let a : Again L m k first bs (rest ++ drop p bs) = again L m k first bs (rest ++ drop p bs) (min-le_left (block_size L) count) q whole in
    let more = most_taken j b L (after_all m (values_at L m k bs)) (count - block_size L) (drop (size_at L bs) bs) (length rest) (omega arith) (below_drop (size_at L bs) bs bytes)
    (rw (a.entries, a.behind, take-append_seam rest (drop p bs), ← less, ← same) o.1) in
    rw (stop_taken L m count bs (block_passes L m k bs a.passes) b) (omega (arith, more))

-- The whole body of a list of count values, or what there is of it: what was taken is accepted as the body of min(count, blocks x B) values,
-- and no greater number of blocks is.
module _ (L : ℕ) (lanes : 0 < L) (m : Mode) (count : ℕ) (bs : List ℕ) (bytes : Below 256 bs) where
  all_taken : Taken L m count bs (block_count L count) (body_stop L m count bs)
  all_taken = taken (block_count L count) L m count bs bytes

  pub kept_fewer : (body_stop L m count bs).blocks ≤ block_count L count
  kept_fewer = all_taken.fewer

  pub kept_left : (body_stop L m count bs).left ≡ count - (body_stop L m count bs).blocks * block_size L
  kept_left = all_taken.rest

  pub kept_inside : (body_stop L m count bs).place ≤ length bs
  kept_inside = all_taken.within

  kept_count : count - (body_stop L m count bs).left ≡ min count ((body_stop L m count bs).blocks * block_size L)
  kept_count = omega (arith, all_taken.rest)

  kept_blocks : block_count L (count - (body_stop L m count bs).left) ≡ (body_stop L m count bs).blocks
  kept_blocks = rw kept_count (blocks_first L lanes (body_stop L m count bs).blocks count kept_fewer)

  pub kept_good : accepted (body_refusal L m (count - (body_stop L m count bs).left) (take (body_stop L m count bs).place bs)) ≡ true
  kept_good = rw kept_blocks all_taken.good

  pub kept_mode : (body_stop L m count bs).mode ≡ after_all m (list_of L m (count - (body_stop L m count bs).left) (take (body_stop L m count bs).place bs))
  unfolding list_of
  kept_mode = rw kept_blocks all_taken.next

  pub kept_whole : accepted (body_refusal L m count bs) ≡ true → ((body_stop L m count bs).left ≡ 0) × ((body_stop L m count bs).place ≡ length bs)
  kept_whole h =
      let w = all_taken.whole (rw (stop_refusal (block_count L count) L m count bs) h) in
      (omega (arith, all_taken.rest, ap (λ (t : ℕ). t * block_size L) w.0, blocks_enough L count lanes), w.1)

  pub kept_most : (j p : ℕ) → j ≤ block_count L count → accepted (body_refusal L m (min count (j * block_size L)) (take p bs)) ≡ true → j ≤ (body_stop L m count bs).blocks
  kept_most j p few h = most_taken j (block_count L count) L m count bs p few bytes (rw (blocks_first L lanes j count few) at h)
