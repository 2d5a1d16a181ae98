-- Which numbers reading a body may give: 5, 2, 10, 9, 8, 11, and none other.
use mathlib.Core.Bool.{not}
use mathlib.Core.List.{List}
use Prim.Native.Nat.{ℕ, zero, suc, ◌+◌, ◌-◌, min}
use lib.Dec.{ltb, eqb}
use lib.ListN.{length, drop}
use Rattle.layout.specs.Layout.{block_size}
use Rattle.layout.specs.Width.{least_width}
use Rattle.modes.specs.declared.Mode.{Mode}
use Rattle.std.specs.Prelude.{Err}
use Rattle.answers.specs.declared.Refusal.TheVariants.{BadWidth, CutShort, OutOfOrder, NotLeast, BadFill, LeftOver}
use Rattle.answers.specs.Refusals.{Tested, accept}
use Rattle.answers.proofs.Refusals.{refused, either}
use Rattle.order.specs.Order.{ordered, after_all}
use Rattle.bodies.specs.Body.{block_count}
use Rattle.bodies.specs.Reading.{width_at, size_at, entry_at, values_at, all_zero, refuse_values, block_refusal, refusal_from, body_refusal}

module _ (P : Tested → Type 0) (none : P accept) (wide : P (Err BadWidth)) (cut : P (Err CutShort)) (order : P (Err OutOfOrder)) (least : P (Err NotLeast)) (fill : P (Err BadFill)) (left : P (Err LeftOver)) where
  pub values_only : (m : Mode) (vs : List ℕ) → P (refuse_values m vs accept)
  values_only m vs = refused P (not (ordered m vs)) OutOfOrder accept order none

  block_only : (L : ℕ) (m : Mode) (k : ℕ) (bs : List ℕ) → P (block_refusal L m k bs)
  unfolding block_refusal
  block_only L m k bs =
      refused P (ltb (length bs) 1) CutShort _ cut
      (refused P (ltb 32 (width_at bs)) BadWidth _ wide
      (refused P (ltb (length bs) (size_at L bs)) CutShort _ cut
      (refused P (not (all_zero (λ i. entry_at L bs (k + i)) (block_size L - k))) BadFill _ fill
      (refused P (not (eqb (width_at bs) (least_width (entry_at L bs) (block_size L)))) NotLeast _ least
      (values_only m (values_at L m k bs))))))

  from : (L : ℕ) (m : Mode) (count : ℕ) (bs : List ℕ) (b : ℕ) → P (refusal_from L m count bs b)
  unfolding refusal_from
  from L m count bs zero = refused P (ltb 0 (length bs)) LeftOver accept left none
  from L m count bs (suc b) =
      let k : ℕ = min (block_size L) count in
      either P _ _ (block_only _ _ _ _) (from L (after_all m (values_at L m k bs)) (count - block_size L) (drop (size_at L bs) bs) b)

  pub body_only : (L : ℕ) (m : Mode) (count : ℕ) (bs : List ℕ) → P (body_refusal L m count bs)
  body_only L m count bs = from L m count bs (block_count L count)
