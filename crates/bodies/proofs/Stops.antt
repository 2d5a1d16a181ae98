-- Where reading stops, block by block: a block is taken or refused, and the refusal is that of reading.
use mathlib.Core.Path.{◌≡◌, refl, sym, ◌∙◌, ap}
use mathlib.Core.Bool.{Bool, true, false}
use mathlib.Core.List.{List}
use Prim.Native.Nat.{ℕ, zero, suc, ◌-◌, ◌<◌, min}
use native.Mathlib.Nat.{add_assoc}
use lib.ListN.{drop}
use Rattle.layout.specs.Layout.{block_size}
use Rattle.modes.specs.declared.Mode.{Mode}
use Rattle.answers.specs.Refusals.{accept, accepted}
use Rattle.answers.proofs.Refusals.{accepted_is}
use Rattle.order.specs.Order.{after_all}
use Rattle.bodies.specs.declared.Stop.{Stop}
use Rattle.bodies.specs.Body.{block_count}
use Rattle.bodies.specs.Reading.{size_at, values_at, block_refusal, end_refusal, refusal_from}
use Rattle.bodies.specs.Stops.{nothing, block_stop, past, stop_from, body_stop}
use Rattle.bodies.proofs.Onward.{blocks_none, blocks_next}

-- a block is taken, or it is refused
module _ (L : ℕ) (m : Mode) (count : ℕ) (bs : List ℕ) where
  abbrev pub taking : Stop
  taking = record { outcome = accept; blocks = 1; place = size_at L bs; left = count - block_size L; mode = after_all m (values_at L m (min (block_size L) count) bs) }

  module _ (e : accepted (block_refusal L m (min (block_size L) count) bs) ≡ true) where
    pub block_taken : block_stop L m count bs ≡ taking
    unfolding block_stop
    block_taken = rw e

    pub stop_taken : (b : ℕ) → stop_from L m count bs (suc b) ≡ past taking (stop_from L taking.mode taking.left (drop taking.place bs) b)
    unfolding stop_from
    stop_taken b = rw block_taken

  module _ (e : accepted (block_refusal L m (min (block_size L) count) bs) ≡ false) where
    pub block_refused : block_stop L m count bs ≡ nothing (block_refusal L m (min (block_size L) count) bs) count m
    unfolding block_stop
    block_refused = rw e

    pub stop_refused : (b : ℕ) → stop_from L m count bs (suc b) ≡ nothing (block_refusal L m (min (block_size L) count) bs) count m
    unfolding stop_from
    stop_refused b = rw (block_refused, e)

  pub block_refusal_lem : (block_stop L m count bs).outcome ≡ block_refusal L m (min (block_size L) count) bs
  block_refusal_lem = go (accepted (block_refusal L m (min (block_size L) count) bs)) refl
    where
      go : (t : Bool) → accepted (block_refusal L m (min (block_size L) count) bs) ≡ t → (block_stop L m count bs).outcome ≡ block_refusal L m (min (block_size L) count) bs
      go true e = ap (λ (s : Stop). s.outcome) (block_taken e) ∙ sym (accepted_is _ e)
      go false e = ap (λ (s : Stop). s.outcome) (block_refused e)

-- a body, block by block
module _ (L : ℕ) (lanes : 0 < L) (m : Mode) where
  pub stop_none : (bs : List ℕ) → body_stop L m 0 bs ≡ nothing (end_refusal bs) 0 m
  unfolding stop_from
  stop_none bs = rw (blocks_none L lanes)

  module _ (count : ℕ) (bs : List ℕ) (pos : 0 < count) where
    pub stop_here : accepted (block_refusal L m (min (block_size L) count) bs) ≡ false → body_stop L m count bs ≡ nothing (block_refusal L m (min (block_size L) count) bs) count m
    stop_here e = rw (blocks_next L lanes count pos) (stop_refused L m count bs e (block_count L (count - block_size L)))

    pub stop_next : accepted (block_refusal L m (min (block_size L) count) bs) ≡ true
        → body_stop L m count bs ≡ past (taking L m count bs) (body_stop L (taking L m count bs).mode (count - block_size L) (drop (size_at L bs) bs))
    stop_next e = rw (blocks_next L lanes count pos) (stop_taken L m count bs e (block_count L (count - block_size L)))

pub past_past : (s t u : Stop) → past s (past t u) ≡ past (past s t) u
past_past s t u = simp add_assoc

-- it stops at the refusal of reading
pub stop_refusal : (b L : ℕ) (m : Mode) (count : ℕ) (bs : List ℕ) → (stop_from L m count bs b).outcome ≡ refusal_from L m count bs b
unfolding refusal_from stop_from
stop_refusal zero L m count bs = refl
stop_refusal (suc b) L m count bs = go (accepted (block_refusal L m (min (block_size L) count) bs)) refl (stop_refusal b L _ (count - block_size L) (drop (size_at L bs) bs))
  where
    go : (t : Bool) → accepted (block_refusal L m (min (block_size L) count) bs) ≡ t
        → (stop_from L (after_all m (values_at L m (min (block_size L) count) bs)) (count - block_size L) (drop (size_at L bs) bs) b).outcome
        ≡ refusal_from L (after_all m (values_at L m (min (block_size L) count) bs)) (count - block_size L) (drop (size_at L bs) bs) b
        → (stop_from L m count bs (suc b)).outcome ≡ refusal_from L m count bs (suc b)
    go true e rest = ap (λ (s : Stop). s.outcome) (stop_taken L m count bs e b) ∙ rw e rest
    go false e rest = ap (λ (s : Stop). s.outcome) (stop_refused L m count bs e b) ∙ rw e
