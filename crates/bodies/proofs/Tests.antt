-- What the tests of a block say where none refuses.
use mathlib.Core.Path.{◌≡◌, refl, sym, ◌∙◌}
use mathlib.Core.Bool.{true, false}
use mathlib.Core.List.{List}
use Prim.Native.Nat.{ℕ, zero, suc, ◌+◌, ◌-◌, ◌≤◌, ◌<◌}
use native.Mathlib.Omega.{arith}
use native.Mathlib.Decide.{ℕ_discrete}
use borrow.Author.Tests.{ltb-false, lt-ltb, le-ltb, eqb-true, eq-eqb, ne_eqb, not-false}
use lib.Dec.{ltb, eqb}
use lib.ListN.{length}
use Rattle.std.specs.Prelude.{Err}
use Rattle.layout.specs.Layout.{block_size}
use Rattle.layout.specs.Width.{fits, least_width}
use Rattle.modes.specs.declared.Mode.{Mode}
use Rattle.answers.specs.declared.Refusal.TheVariants.{BadWidth, CutShort, OutOfOrder, NotLeast, BadFill}
use Rattle.answers.specs.Refusals.{accept, accepted}
use Rattle.answers.proofs.Refusals.{passed}
use Rattle.order.specs.Order.{ordered}
use Rattle.bodies.specs.Reading.{width_at, size_at, entry_at, values_at, all_zero, frame_refusal, block_refusal}

-- a block stands there
pub record Framed (L : ℕ) (bs : List ℕ) : Type 0 where
  pub some : 1 ≤ length bs
  pub narrow : width_at bs ≤ 32
  pub whole : size_at L bs ≤ length bs

pub framed : (L : ℕ) (bs : List ℕ) → accepted (frame_refusal L bs) ≡ true → Framed L bs
unfolding frame_refusal
framed L bs h =
    let a = passed _ CutShort _ h in
    let b = passed _ BadWidth _ a.1 in
    let c = passed _ CutShort accept b.1 in
    record { some = ltb-false _ _ a.0; narrow = ltb-false _ _ b.0; whole = ltb-false _ _ c.0 }

pub frames : (L : ℕ) (bs : List ℕ) → Framed L bs → accepted (frame_refusal L bs) ≡ true
unfolding frame_refusal
frames L bs f = rw (le-ltb (length bs) 1 f.some, le-ltb 32 (width_at bs) f.narrow, le-ltb (length bs) (size_at L bs) f.whole)

-- to be 0 is to fit width 0
zero_tells : (x : ℕ) → eqb x 0 ≡ ltb x 1
zero_tells x = go (ℕ_discrete x 0)
  where
    go : Dec (x ≡ 0) → eqb x 0 ≡ ltb x 1
    go (yes e) = eq-eqb x 0 e ∙ sym (lt-ltb x 1 (omega arith))
    go (no n) = ne_eqb x 0 n ∙ sym (le-ltb x 1 (omega (arith, pos x n)))
      where
        pos : (y : ℕ) → (y ≡ 0 → ⊥) → 0 < y
        pos zero h = absurd (h refl)
        pos (suc y) h = omega arith

pub zeros_fit : (e : ℕ → ℕ) (m : ℕ) → all_zero e m ≡ fits e m 0
unfolding all_zero fits
zeros_fit e zero = refl
zeros_fit e (suc m) = rw (zeros_fit e m, zero_tells (e m))

-- "10, 9": filling that is not 0 is told before the width
pub fill_first : (L : ℕ) (m : Mode) (k : ℕ) (bs : List ℕ) → Framed L bs → all_zero (λ i. entry_at L bs (k + i)) (block_size L - k) ≡ false → block_refusal L m k bs ≡ Err BadFill
unfolding block_refusal
fill_first L m k bs f h = rw (le-ltb (length bs) 1 f.some, le-ltb 32 (width_at bs) f.narrow, le-ltb (length bs) (size_at L bs) f.whole, h)

-- its entries are as they are written
pub record Kept (L k n : ℕ) (e : ℕ → ℕ) : Type 0 where
  pub filling : fits (λ i. e (k + i)) (block_size L - k) 0 ≡ true
  pub least : n ≡ least_width e (block_size L)

-- and its values are in order
pub record Passed (L : ℕ) (m : Mode) (k : ℕ) (bs : List ℕ) : Type 0 where
  pub frame : Framed L bs
  pub entries : Kept L k (width_at bs) (entry_at L bs)
  pub order : ordered m (values_at L m k bs) ≡ true

pub block_passed : (L : ℕ) (m : Mode) (k : ℕ) (bs : List ℕ) → accepted (block_refusal L m k bs) ≡ true → Passed L m k bs
unfolding block_refusal
block_passed L m k bs h =
    let a = passed _ CutShort _ h in
    let b = passed _ BadWidth _ a.1 in
    let c = passed _ CutShort _ b.1 in
    let d = passed _ BadFill _ c.1 in
    let e = passed _ NotLeast _ d.1 in
    let v = passed _ OutOfOrder accept e.1 in
    record {
      frame = record { some = ltb-false _ _ a.0; narrow = ltb-false _ _ b.0; whole = ltb-false _ _ c.0 };
      entries = record { filling = sym (zeros_fit (λ i. entry_at L bs (k + i)) (block_size L - k)) ∙ not-false _ d.0; least = eqb-true _ _ (not-false _ e.0) };
      order = not-false _ v.0;
    }

pub block_passes : (L : ℕ) (m : Mode) (k : ℕ) (bs : List ℕ) → Passed L m k bs → accepted (block_refusal L m k bs) ≡ true
unfolding block_refusal
block_passes L m k bs p =
    let f = p.frame in
    rw (
      le-ltb (length bs) 1 f.some,
      le-ltb 32 (width_at bs) f.narrow,
      le-ltb (length bs) (size_at L bs) f.whole,
      zeros_fit (λ i. entry_at L bs (k + i)) (block_size L - k),
      p.entries.filling,
      eq-eqb (width_at bs) (least_width (entry_at L bs) (block_size L)) p.entries.least,
      p.order,
    )
