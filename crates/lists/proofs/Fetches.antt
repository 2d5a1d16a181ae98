-- The values of a body: one block, and a run of blocks.
use mathlib.Core.Path.{◌≡◌, refl, sym, ◌∙◌, ap}
use mathlib.Core.Bool.{true}
use mathlib.Core.List.{List, [], ◌++◌, append_assoc, append-nil}
use Prim.Native.Nat.{ℕ, zero, suc, ◌+◌, ◌-◌, ◌≤◌, ◌<◌, min}
use native.Mathlib.Nat.{sub-zero, min-eq_left, min-eq_right}
use native.Mathlib.Omega.{arith}
use lib.ListN.{length, take, drop, length-append, get_or-append}
use lib.Seq.{take-take}
use borrow.Rule.Slice.PartMut.{mid_of, put_mid}
use Rattle.layout.specs.Layout.{at, block_size, payload_size}
use Rattle.answers.specs.Answers.{over}
use Rattle.answers.specs.Refusals.{accepted}
use Rattle.answers.proofs.Refusals.{both}
use Rattle.answers.proofs.Fronts.{Front, front_none, front_length, front_part}
use Rattle.answers.proofs.Parts.{part_is}
use Rattle.layout.proofs.Tables.{length_table, take_table}
use Rattle.modes.specs.Entries.{values}
use Rattle.modes.specs.declared.Mode.{Mode}
use Rattle.order.specs.Order.{after, after_all}
use Rattle.order.proofs.Steps.{length_values}
use Rattle.order.proofs.Going.{after_end}
use Rattle.order.proofs.Blockwise.{values_are}
use Rattle.bodies.specs.Body.{block_count}
use Rattle.bodies.specs.Reading.{size_at, entry_at, entries_at, values_at, frame_refusal, block_refusal, refusal_from, list_of}
use Rattle.bodies.proofs.Tests.{Framed, framed, frames, block_passed}
use Rattle.bodies.proofs.Onward.{blocks_next, list_none, list_next}
use Rattle.lists.proofs.Standing.{byte_there, byte_narrow, end_within, rest_there}
use Rattle.lists.specs.kernel.Steps.{frames_from}

-- one block

module _ (L : ℕ) (m : Mode) (bs : List ℕ) where
  pub length_at : (k : ℕ) → length (values_at L m k bs) ≡ k
  length_at k = length_values m (entries_at L k bs) ∙ length_table (entry_at L bs) k

  -- its first k values
  pub first_values : (k : ℕ) → k ≤ block_size L → take k (values_at L m (block_size L) bs) ≡ values_at L m k bs
  first_values k h =
      ap (take k) (values_are m (entry_at L bs) (block_size L)) ∙ take_table (values m (entry_at L bs)) k (block_size L) h ∙ sym (values_are m (entry_at L bs) k)

  -- its last value, in the output that it was written to
  pub last_value : 0 < L → (out before : List ℕ) → out ≡ over (values_at L m (block_size L) bs) before → after m (at out (block_size L - 1)) ≡ after_all m (values_at L m (block_size L) bs)
  last_value pos out before e =
      let vs : List ℕ = values_at L m (block_size L) bs in
      let len : length vs ≡ block_size L = length_at (block_size L) in
      let v : at out (block_size L - 1) ≡ at vs (length vs - 1) = ap (λ (t : List ℕ). at t (block_size L - 1)) e ∙ get_or-append vs _ 0 (block_size L - 1) (omega arith) ∙ ap (λ (t : ℕ). at vs (t - 1)) (sym len) in
      ap (after m) v ∙ sym (after_end m vs (omega arith))

  -- its first k values, copied out of a block of the reader's own
  pub copied : (k : ℕ) (own front values : List ℕ) → k ≤ block_size L → take (block_size L) own ≡ values_at L m (block_size L) bs → front ≡ take k own
      → front ++ drop k values ≡ over (values_at L m k bs) values
  copied k own front values h e is =
      let first : take k own ≡ values_at L m k bs = sym (take-take k (block_size L) own h) ∙ ap (take k) e ∙ first_values k h in
      rw (is, first, length_at k) refl

-- a run of blocks

-- the first of them stands there, and so do the others
module _ (L : ℕ) (lanes : 0 < L) (count : ℕ) (bs : List ℕ) (pos : 0 < count) (good : accepted (frames_from L bs (block_count L count)) ≡ true) where
  frames_next : (accepted (frame_refusal L bs) ≡ true) × (accepted (frames_from L (drop (size_at L bs) bs) (block_count L (count - block_size L))) ≡ true)
  unfolding frames_from
  frames_next = both (frame_refusal L bs) (frames_from L (drop (size_at L bs) bs) (block_count L (count - block_size L))) (rw (blocks_next L lanes count pos) at good)

-- a body that is not refused has them
pub frames_good : (b L : ℕ) (m : Mode) (count : ℕ) (bs : List ℕ) → accepted (refusal_from L m count bs b) ≡ true → accepted (frames_from L bs b) ≡ true
unfolding refusal_from frames_from
frames_good zero L m count bs h = refl
frames_good (suc b) L m count bs h =
    let o = both (block_refusal L m (min (block_size L) count) bs) _ h in
    rw (frames L bs (block_passed L m _ bs o.0).frame) (frames_good b L _ (count - block_size L) (drop (size_at L bs) bs) o.1)

-- what stands in `out` after the first `done` values, up to `place` in the body, and what is to come
pub record Fetching (L : ℕ) (m₀ : Mode) (count : ℕ) (body before : List ℕ) (m : Mode) (place done : ℕ) (out : List ℕ) : Type 0 where
  pub fewer : done ≤ count
  pub within : place ≤ length body
  pub so_far : List ℕ
  pub far : length so_far ≡ done
  pub list : list_of L m₀ count body ≡ so_far ++ list_of L m (count - done) (drop place body)
  pub here : Front so_far before out
  pub good : accepted (frames_from L (drop place body) (block_count L (count - done))) ≡ true

pub fetching_start : (L : ℕ) (m : Mode) (count : ℕ) (body before : List ℕ) → accepted (frames_from L body (block_count L count)) ≡ true → Fetching L m count body before m 0 0 before
fetching_start L m count body before h =
    record { fewer = omega arith; within = omega arith; so_far = []; far = refl; list = rw sub-zero; here = front_none before; good = rw sub-zero h }

module _ {L : ℕ} {m₀ : Mode} {count : ℕ} {body before : List ℕ} {m : Mode} {place done : ℕ} {out : List ℕ}
    (f : Fetching L m₀ count body before m place done out) (lanes : 0 < L) (room : count ≤ length before) where
  pub out_length : length out ≡ length before
  out_length = front_length f.here done f.far

  module _ (lt : done < count) where
    next : (accepted (frame_refusal L (drop place body)) ≡ true) × (accepted (frames_from L (drop (size_at L (drop place body)) (drop place body)) (block_count L (count - done - block_size L))) ≡ true)
    next = frames_next L lanes (count - done) (drop place body) (omega arith) f.good

    -- the next block stands there
    pub next_framed : accepted (frame_refusal L (mid_of place (length body - place) body)) ≡ true
    next_framed = rw (part_is place body) next.0

    next_whole : Framed L (drop place body)
    next_whole = framed L (drop place body) next.0

    pub width_there : place < length body
    width_there = byte_there L body place f.within next_whole

    pub next_narrow : (w : ℕ) → w ≡ at body place → w ≤ 32
    next_narrow = byte_narrow L body place f.within next_whole

    module _ (w size : ℕ) (is : w ≡ at body place) (sized : size ≡ 1 + payload_size L w) where
      pub next_within : place + size ≤ length body
      next_within = end_within L body place f.within next_whole w size is sized

      -- a full block
      pub fetching_more : block_size L ≤ count - done → (ys : List ℕ) (to : Mode)
          → ys ≡ over (values_at L m (block_size L) (mid_of place (length body - place) body)) (mid_of done (length out - done) out)
          → to ≡ after_all m (values_at L m (block_size L) (mid_of place (length body - place) body))
          → Fetching L m₀ count body before to (place + size) (done + block_size L) (put_mid done (length out - done) out ys)
      fetching_more h ys to came moved =
          let bs : List ℕ = drop place body in
          let left : ℕ = count - done in
          let k : min (block_size L) left ≡ block_size L = min-eq_left h in
          let vs : List ℕ = values_at L m (block_size L) bs in
          let len : length vs ≡ block_size L = length_at L m bs (block_size L) in
          let less : left - block_size L ≡ count - (done + block_size L) = omega arith in
          let came' : ys ≡ over vs (mid_of done (length out - done) out) = came ∙ rw (part_is place body) in
          let moved' : to ≡ after_all m vs = moved ∙ rw (part_is place body) in
          let move = rest_there L body place f.within next_whole w size is sized in
          record {
            fewer = omega (arith, f.fewer);
            within = next_within;
            so_far = f.so_far ++ vs;
            far = length-append f.so_far vs ∙ rw (len, f.far);
            list =
                f.list ∙ ap (λ (t : List ℕ). f.so_far ++ t) (list_next L lanes m left bs (omega arith))
                ∙ rw (k, ← moved', less, move) (sym (append_assoc f.so_far vs _));
            here = front_part f.here done f.far vs ys (omega (arith, f.fewer)) came';
            good = rw (less, move) at next.1;
          }

    -- a last block that is not full
    pub fetching_last : count - done < block_size L → (ys : List ℕ)
        → ys ≡ over (values_at L m (count - done) (mid_of place (length body - place) body)) (mid_of done (length out - done) out)
        → put_mid done (length out - done) out ys ≡ over (list_of L m₀ count body) before
    fetching_last h ys came =
        let bs : List ℕ = drop place body in
        let left : ℕ = count - done in
        let k : min (block_size L) left ≡ left = min-eq_right {n = left} {m = block_size L} (omega arith) in
        let vs : List ℕ = values_at L m left bs in
        let none : left - block_size L ≡ 0 = omega arith in
        let came' : ys ≡ over vs (mid_of done (length out - done) out) = came ∙ rw (part_is place body) in
        let all : list_of L m₀ count body ≡ f.so_far ++ vs =
        f.list ∙ ap (λ (t : List ℕ). f.so_far ++ t) (list_next L lanes m left bs (omega arith) ∙ rw (k, none, list_none L lanes (after_all m vs) (drop (size_at L bs) bs)) (append-nil vs)) in
        rw all (front_part f.here done f.far vs ys (rw (length_at L m bs left) (omega arith)) came').here

  -- nothing is left
  pub fetching_done : count ≤ done → out ≡ over (list_of L m₀ count body) before
  fetching_done h =
      let none : count - done ≡ 0 = omega arith in
      let all : list_of L m₀ count body ≡ f.so_far = f.list ∙ rw (none, list_none L lanes m (drop place body)) (append-nil f.so_far) in
      rw all f.here.here
