-- Lists with one element stored.
use mathlib.Core.Path.{◌≡◌}
use mathlib.Core.Logic.{◌≢◌}
use mathlib.Core.List.{List}
use Prim.Native.Nat.{ℕ, ◌+◌, ◌<◌}
use native.Mathlib.Omega.{arith}
use native.Mathlib.Decide.{ℕ_discrete}
use lib.ListN.{length, set}
use lib.Seq.{get_or-set_same, get_or-set_other}
use Rattle.layout.specs.Layout.{at}

-- what holds of each element below i, and of what is stored at i, holds of each below i + 1
pub filled : (f : ℕ → ℕ) (x : List ℕ) (i v : ℕ) → i < length x → ((k : ℕ) → k < i → at x k ≡ f k) → v ≡ f i
    → (k : ℕ) → k < i + 1 → at (set x i v) k ≡ f k
filled f x i v h below here k lt = go (ℕ_discrete k i)
  where
    go : Dec (k ≡ i) → at (set x i v) k ≡ f k
    go (yes e) = rw (e, get_or-set_same x i v 0 h) here
    go (no ne) = rw (get_or-set_other x i k v 0 ne) (below k (omega arith))

-- lib.Seq's laws at lists of numbers
pub at_same : (l : List ℕ) (i a : ℕ) → i < length l → at (set l i a) i ≡ a
at_same l i a h = get_or-set_same l i a 0 h

pub at_other : (l : List ℕ) (i j a : ℕ) → j ≢ i → at (set l i a) j ≡ at l j
at_other l i j a h = get_or-set_other l i j a 0 h
