-- The block that stands at a place of a body.
use mathlib.Core.Path.{◌≡◌, sym, ◌∙◌, ap}
use mathlib.Core.List.{List}
use Prim.Native.Nat.{ℕ, ◌+◌, ◌≤◌, ◌<◌}
use native.Mathlib.Nat.{add-zero}
use native.Mathlib.Omega.{arith}
use lib.ListN.{length, drop, length-drop}
use lib.Seq.{drop-drop, get_or-drop}
use Rattle.layout.specs.Layout.{at, payload_size}
use Rattle.bodies.specs.Reading.{width_at, size_at}
use Rattle.bodies.proofs.Tests.{Framed}

module _ (L : ℕ) (body : List ℕ) (place : ℕ) (inside : place ≤ length body) (f : Framed L (drop place body)) where
  -- its width byte
  pub byte_there : place < length body
  byte_there = omega (arith, f.some, length-drop place body)

  width_at_lem : at body place ≡ width_at (drop place body)
  width_at_lem = sym (get_or-drop place body 0 0 ∙ ap (at body) (add-zero place))

  pub byte_narrow : (w : ℕ) → w ≡ at body place → w ≤ 32
  byte_narrow w e = rw (e, width_at_lem) f.narrow

  -- its size, and what stands behind it
  module _ (w size : ℕ) (e : w ≡ at body place) (sized : size ≡ 1 + payload_size L w) where
    size_there : size ≡ size_at L (drop place body)
    size_there = sized ∙ rw (e, width_at_lem)

    pub end_within : place + size ≤ length body
    end_within = omega (arith, f.whole, size_there, length-drop place body, inside)

    pub rest_there : drop (size_at L (drop place body)) (drop place body) ≡ drop (place + size) body
    rest_there = rw (← size_there) (drop-drop size place body)
