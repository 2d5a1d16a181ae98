-- Lists of numbers below a bound, joined and taken apart.
use mathlib.Core.Path.{◌≡◌}
use mathlib.Core.List.{List, [], ◌∷◌, ◌++◌}
use Prim.Native.Nat.{ℕ, zero, suc, ◌≤◌, ◌<◌}
use native.Mathlib.Omega.{arith}
use native.Mathlib.Decide.{dec_lt}
use lib.ListN.{take, drop, get_or-eq_default}
use Rattle.layout.specs.Layout.{at, Below, table}
use Rattle.layout.proofs.Tables.{length_table, table_at}

module _ {n : ℕ} where
  pub below_none : 0 < n → Below n []
  below_none pos k = pos

  pub below_tail : (x : ℕ) (xs : List ℕ) → Below n (x ∷ xs) → Below n xs
  below_tail x xs b k = b (suc k)

  pub below_cons : (x : ℕ) (xs : List ℕ) → x < n → Below n xs → Below n (x ∷ xs)
  below_cons x xs h b zero = h
  below_cons x xs h b (suc k) = b k

  pub below_append : (xs ys : List ℕ) → Below n xs → Below n ys → Below n (xs ++ ys)
  below_append [] ys a b = b
  below_append (x ∷ xs) ys a b = below_cons x (xs ++ ys) (a 0) (below_append xs ys (below_tail x xs a) b)

  pub below_take : (m : ℕ) (xs : List ℕ) → Below n xs → Below n (take m xs)
  below_take zero xs b = below_none (omega (arith, b 0))
  below_take (suc m) [] b = b
  below_take (suc m) (x ∷ xs) b = below_cons x (take m xs) (b 0) (below_take m xs (below_tail x xs b))

  pub below_drop : (m : ℕ) (xs : List ℕ) → Below n xs → Below n (drop m xs)
  below_drop zero xs b = b
  below_drop (suc m) [] b = b
  below_drop (suc m) (x ∷ xs) b = below_drop m xs (below_tail x xs b)

-- a table, and past its end
pub table_past : (f : ℕ → ℕ) (m i : ℕ) → m ≤ i → at (table f m) i ≡ 0
table_past f m i h = get_or-eq_default (table f m) 0 (rw length_table h)

pub below_table : {n : ℕ} (f : ℕ → ℕ) (m : ℕ) → ((i : ℕ) → f i < n) → Below n (table f m)
below_table {n} f m h i = go (dec_lt i m)
  where
    go : Dec (i < m) → at (table f m) i < n
    go (yes lt) = rw (table_at f m i lt) (h i)
    go (no ge) = rw (table_past f m i (omega arith)) (omega (arith, h i))
