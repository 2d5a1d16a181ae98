-- A block's tests in the parts in which the code makes them.
use mathlib.Core.Path.{◌≡◌, refl}
use mathlib.Core.Bool.{Bool, true, false, not}
use mathlib.Core.List.{List}
use Prim.Native.Nat.{ℕ, ◌+◌, ◌-◌}
use lib.Dec.{ltb, eqb}
use lib.ListN.{length}
use Rattle.answers.specs.declared.Refusal.TheVariants.{BadWidth, CutShort, NotLeast, BadFill}
use Rattle.answers.specs.Refusals.{accept, refuse, or_else}
use Rattle.layout.specs.Layout.{block_size}
use Rattle.layout.specs.Width.{fits, least_width}
use Rattle.modes.specs.declared.Mode.{Mode}
use Rattle.bodies.specs.Reading.{width_at, size_at, entry_at, values_at, frame_refusal, refuse_values, block_refusal}
use Rattle.bodies.proofs.Tests.{zeros_fit}
use Rattle.lists.specs.kernel.Steps.{entries_refusal, shape_refusal}

pub block_parts : (L : ℕ) (m : Mode) (k : ℕ) (bs : List ℕ) → block_refusal L m k bs ≡ or_else (shape_refusal L k bs) (refuse_values m (values_at L m k bs) accept)
unfolding block_refusal shape_refusal frame_refusal entries_refusal
block_parts L m k bs =
    rw (zeros_fit (λ i. entry_at L bs (k + i)) (block_size L - k))
    (go (ltb (length bs) 1) (ltb 32 (width_at bs)) (ltb (length bs) (size_at L bs)) (not (fits (λ i. entry_at L bs (k + i)) (block_size L - k) 0)) (not (eqb (width_at bs) (least_width (entry_at L bs) (block_size L)))))
  where
    go : (a b c d e : Bool)
        → refuse a CutShort (refuse b BadWidth (refuse c CutShort (refuse d BadFill (refuse e NotLeast (refuse_values m (values_at L m k bs) accept)))))
        ≡ or_else (or_else (refuse a CutShort (refuse b BadWidth (refuse c CutShort accept))) (refuse d BadFill (refuse e NotLeast accept))) (refuse_values m (values_at L m k bs) accept)
    go true b c d e = refl
    go false true c d e = refl
    go false false true d e = refl
    go false false false true e = refl
    go false false false false true = refl
    go false false false false false = refl
