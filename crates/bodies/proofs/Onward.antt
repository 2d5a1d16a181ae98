-- Block by block: what a body, its refusal and its list are, is what its first block is and the same of the rest.
use mathlib.Core.Path.{◌≡◌, sym, ◌∙◌, ap}
use mathlib.Core.List.{List, [], ◌++◌}
use Prim.Native.Nat.{ℕ, zero, suc, ◌+◌, ◌*◌, ◌-◌, ◌/◌, ◌≤◌, ◌<◌, min}
use native.Mathlib.Nat.{zero-mul, min-zero, div-eq_of_lt, add-div_right}
use native.Mathlib.Numerals.{add-one}
use native.Mathlib.Omega.{arith}
use native.Mathlib.Decide.{dec_lt}
use lib.ListN.{length, take, drop, length-drop, length-take, take-append-drop}
use Rattle.layout.specs.Layout.{block_size}
use Rattle.modes.specs.declared.Mode.{Mode}
use Rattle.order.specs.Order.{after_all, entries_of, values_of}
use Rattle.order.proofs.Steps.{length_entries, entries_append, values_append}
use Rattle.bodies.specs.Body.{block, block_count, blocks_of, body_of}
use Rattle.bodies.specs.Reading.{size_at, entries_at, values_at, entries_from, list_of}
use Rattle.bodies.proofs.Whole.{front, suc_times}

module _ (L : ℕ) (lanes : 0 < L) where
  pub blocks_none : block_count L 0 ≡ 0
  unfolding block_count
  blocks_none = div-eq_of_lt (omega arith)

  pub blocks_next : (count : ℕ) → 0 < count → block_count L count ≡ suc (block_count L (count - block_size L))
  unfolding block_count
  blocks_next count pos = go (dec_lt count (block_size L))
    where
      more : (c n : ℕ) → 0 < n → n ≤ c → (c + (n - 1)) / n ≡ suc ((c - n + (n - 1)) / n)
      more c n p le =
          let e : c + (n - 1) ≡ c - n + (n - 1) + n = omega arith in
          ap (λ (t : ℕ). t / n) e ∙ add-div_right (c - n + (n - 1)) p ∙ add-one ((c - n + (n - 1)) / n)

      one : (c n : ℕ) → 0 < c → c < n → (c + (n - 1)) / n ≡ suc ((c - n + (n - 1)) / n)
      one c n p lt =
          let e : c + (n - 1) ≡ c - 1 + n = omega arith in
          let f : c - n + (n - 1) < n = omega arith in
          ap (λ (t : ℕ). t / n) e ∙ add-div_right (c - 1) (omega arith) ∙ add-one ((c - 1) / n) ∙ ap suc (div-eq_of_lt (omega arith) ∙ sym (div-eq_of_lt f))

      go : Dec (count < block_size L) → (count + (block_size L - 1)) / block_size L ≡ suc ((count - block_size L + (block_size L - 1)) / block_size L)
      go (yes lt) = one count (block_size L) pos lt
      go (no ge) = more count (block_size L) (omega arith) (omega arith)

  blocks_some : (count : ℕ) → 0 < block_count L count → 0 < count
  blocks_some count h = go (dec_lt 0 count)
    where
      go : Dec (0 < count) → 0 < count
      go (yes pos) = pos
      go (no none) =
          let z : count ≡ 0 = omega arith in
          absurd (omega (arith, ap (block_count L) z, blocks_none))

  -- the first j blocks hold j B values, or all
  pub blocks_first : (j count : ℕ) → j ≤ block_count L count → block_count L (min count (j * block_size L)) ≡ j
  blocks_first zero count h = rw (zero-mul (block_size L), min-zero count) blocks_none
  blocks_first (suc j) count h =
      let pos : 0 < count = blocks_some count (omega arith) in
      let less : min count (suc j * block_size L) - block_size L ≡ min (count - block_size L) (j * block_size L) = omega (arith, suc_times j (block_size L)) in
      let ih = blocks_first j (count - block_size L) (omega (arith, blocks_next count pos)) in
      blocks_next (min count (suc j * block_size L)) (omega (arith, suc_times j (block_size L))) ∙ rw (less, ih)

  -- the body

  pub body_none : (m : Mode) (vs : List ℕ) → length vs ≡ 0 → body_of L m vs ≡ []
  unfolding body_of blocks_of
  body_none m vs z = rw (z, blocks_none)

  -- the entries of the first n values, and of the rest
  split_entries : (n : ℕ) (m : Mode) (vs : List ℕ) → (take n (entries_of m vs) ≡ entries_of m (take n vs)) × (drop n (entries_of m vs) ≡ entries_of (after_all m (take n vs)) (drop n vs))
  split_entries n m vs =
      let e : entries_of m vs ≡ entries_of m (take n vs) ++ entries_of (after_all m (take n vs)) (drop n vs) = ap (entries_of m) (sym (take-append-drop n vs)) ∙ entries_append m (take n vs) (drop n vs) in
      rw e (front n (entries_of m (take n vs)) (entries_of (after_all m (take n vs)) (drop n vs)) (length vs) (length_entries m (take n vs) ∙ length-take n vs) (length_entries (after_all m (take n vs)) (drop n vs) ∙ length-drop n vs))

  pub body_next : (m : Mode) (vs : List ℕ) → 0 < length vs
      → body_of L m vs ≡ block L (entries_of m (take (block_size L) vs)) ++ body_of L (after_all m (take (block_size L) vs)) (drop (block_size L) vs)
  unfolding body_of blocks_of
  body_next m vs pos =
      let s = split_entries (block_size L) m vs in
      rw (blocks_next (length vs) pos, length-drop, s.0, s.1)

  -- the list that is read

  pub list_none : (m : Mode) (bs : List ℕ) → list_of L m 0 bs ≡ []
  unfolding list_of entries_from values_of
  list_none m bs = rw blocks_none

  pub list_next : (m : Mode) (count : ℕ) (bs : List ℕ) → 0 < count
      → list_of L m count bs ≡ values_at L m (min (block_size L) count) bs ++ list_of L (after_all m (values_at L m (min (block_size L) count) bs)) (count - block_size L) (drop (size_at L bs) bs)
  unfolding list_of entries_from
  list_next m count bs pos = rw (blocks_next count pos) (values_append m (entries_at L (min (block_size L) count) bs) _)
