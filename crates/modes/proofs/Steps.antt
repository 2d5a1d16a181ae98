-- A block row by row: what the row operations answer are the block's entries and values.
use mathlib.Core.Path.{◌≡◌, refl, sym, ◌∙◌, ap, ap₂}
use mathlib.Core.List.{List}
use Prim.Native.Nat.{ℕ, zero, suc, ◌+◌, ◌*◌, ◌-◌, ◌≤◌, ◌<◌}
use native.Mathlib.Nat.{add-zero, add-suc, zero-mul}
use native.Mathlib.Omega.{arith}
use Rattle.layout.specs.Layout.{at}
use Rattle.lanes.specs.Rows.{IsRow, last_lane}
use Rattle.lanes.specs.Sums.{plus, before, running}
use Rattle.layout.proofs.Products.{one_more}
use Rattle.lanes.proofs.Rows.{lane_of}
use Rattle.modes.specs.Entries.{first_of, entry_of, value_of, entries, values_from, values}
use Rattle.modes.specs.declared.Initial.{Initial}
use Rattle.modes.specs.declared.Mode.{Mode}
use Rattle.modes.specs.declared.Mode.TheVariants.{Plain, Sorted, Strict}
use Rattle.modes.proofs.Undo.{values_ext}

-- the values of plain are the entries
pub plain_values : (m : Mode) (p : ℕ) (d : ℕ → ℕ) (k : ℕ) → m ≡ Plain → d k ≡ values_from m p d k
plain_values m p d zero h = rw h
plain_values m p d (suc k) h = rw h

-- running sums are the values of sorted, and of strict if each difference has 1 added
pub sorted_sums : (f p : ℕ) (d : ℕ → ℕ) (k : ℕ) → running p d k ≡ values_from (Sorted f) p d k
sorted_sums f p d zero = refl
sorted_sums f p d (suc k) = ap (λ (t : ℕ). plus t (d (suc k))) (sorted_sums f p d k)

pub strict_sums : (i : Initial) (p : ℕ) (x d : ℕ → ℕ) (k : ℕ) → ((j : ℕ) → j ≤ k → x j ≡ plus (d j) 1) → running p x k ≡ values_from (Strict i) p d k
strict_sums i p x d zero h = ap (plus p) (h 0 (omega arith))
strict_sums i p x d (suc k) h = ap₂ plus (strict_sums i p x d k (λ j le. h j (omega arith))) (h (suc k) (omega arith))

-- the value before, at a place that is not the first
before_at : (p : ℕ) (v : ℕ → ℕ) (k : ℕ) → 0 < k → v (k - 1) ≡ before p v k
before_at p v zero h = absurd (omega arith)
before_at p v (suc k) h =
    let e : suc k - 1 ≡ k = omega arith in
    ap v e

-- the last value of row r is the one before row r + 1
row_last : (p : ℕ) (v : ℕ → ℕ) (r L : ℕ) → 0 < L → v (r * L + (L - 1)) ≡ before p v ((r + 1) * L)
row_last p v r L h =
    let e : r * L + (L - 1) ≡ (r + 1) * L - 1 = omega (arith, one_more r L) in
    ap v e ∙ before_at p v ((r + 1) * L) (omega (arith, one_more r L))

-- within a row the value before is that of the lane before, and of lane 0 the one before the row
before_row : (p : ℕ) (v x : ℕ → ℕ) (base L : ℕ) → ((l : ℕ) → l < L → x l ≡ v (base + l)) → (l : ℕ) → l < L
    → before (before p v base) x l ≡ before p v (base + l)
before_row p v x base L is zero h = rw add-zero
before_row p v x base L is (suc l) h = rw add-suc (is l (omega arith))

-- what `transform` answers for the values from `base` on are the block's entries
pub entries_row : (m : Mode) (v : ℕ → ℕ) (x r : List ℕ) (base L p : ℕ) → L ≤ 8 → ((l : ℕ) → l < L → at x l ≡ v (base + l)) → p ≡ before (first_of m) v base
    → IsRow r (λ l. entry_of m (before p (at x) l) (at x l)) → (l : ℕ) → l < L → at r l ≡ entries m v (base + l)
entries_row m v x r base L p small is first e l h =
    lane_of e l (omega arith)
    ∙ ap₂ (entry_of m) (ap (λ (q : ℕ). before q (at x) l) first ∙ before_row (first_of m) v (at x) base L is l h) (is l h)

-- the values of a row go on from the last of the row before
values_on : (m : Mode) (p : ℕ) (e : ℕ → ℕ) (base l : ℕ) → values_from m (before p (values_from m p e) base) (λ i. e (base + i)) l ≡ values_from m p e (base + l)
values_on m p e zero zero = refl
values_on m p e (suc base) zero = rw (add-zero (suc base))
values_on m p e base (suc l) = rw (add-suc base l) (ap (λ (t : ℕ). value_of m t (e (suc (base + l)))) (values_on m p e base l))

-- what `process` answers for the entries from `base` on are the block's values
pub values_row : (m : Mode) (e : ℕ → ℕ) (x r : List ℕ) (base L p : ℕ) → L ≤ 8 → ((l : ℕ) → l < L → at x l ≡ e (base + l)) → p ≡ before (first_of m) (values m e) base
    → IsRow r (values_from m p (at x)) → (l : ℕ) → l < L → at r l ≡ values m e (base + l)
values_row m e x r base L p small is first has l h =
    lane_of has l (omega arith)
    ∙ values_ext m p (at x) (λ i. e (base + i)) l (λ i le. is i (omega arith))
    ∙ ap (λ (q : ℕ). values_from m q (λ i. e (base + i)) l) first ∙ values_on m (first_of m) e base l

-- The row of values that a loop carries: its last number is the value before the next row.

-- at the start it is the first number in every lane
pub last_start : (m : Mode) (v : ℕ → ℕ) {x : List ℕ} {a : ℕ} (L : ℕ) → 0 < L → L ≤ 8 → IsRow x (λ l. a) → a ≡ first_of m
    → last_lane L x ≡ before (first_of m) v (0 * L)
last_start m v L pos small is first = lane_of is (L - 1) (omega arith) ∙ first ∙ sym (ap (before (first_of m) v) (zero-mul L))

-- after row r it is that row
pub last_next : (m : Mode) (v : ℕ → ℕ) (x : List ℕ) (r L : ℕ) → 0 < L → ((l : ℕ) → l < L → at x l ≡ v (r * L + l))
    → last_lane L x ≡ before (first_of m) v ((r + 1) * L)
last_next m v x r L pos is = is (L - 1) (omega arith) ∙ row_last (first_of m) v r L pos
