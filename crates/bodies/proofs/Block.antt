-- One block: it is accepted exactly where it is what is written for its entries.
use mathlib.Core.Path.{◌≡◌, refl, sym, ◌∙◌, ap}
use mathlib.Core.Bool.{true}
use mathlib.Core.List.{List, [], ◌∷◌, ◌++◌}
use Prim.Native.Nat.{ℕ, ◌+◌, ◌-◌, ◌^◌, ◌≤◌, ◌<◌}
use native.Mathlib.Nat.{lt_of_lt_of_le}
use native.Mathlib.Numerals.{one-add}
use native.Mathlib.Omega.{arith}
use native.Mathlib.Decide.{dec_lt}
use lib.ListN.{length, take, drop, length-append, length-drop, get_or-eq_default, take-append-drop}
use lib.Pow.{pow_mono}
use lib.Seq.{drop_at, take-append-add}
use Rattle.layout.specs.Layout.{at, Below, block_size, payload_size, packed}
use Rattle.layout.proofs.Below.{below_drop, below_table, table_past}
use Rattle.layout.proofs.Tables.{table_at, table_of, table_ext, length_table, length_packed}
use Rattle.layout.proofs.RoundTrip.{entry_fits, entry_packed, packed_entry, packed_ext}
use Rattle.layout.proofs.Widths.{fits_of, of_fits, width_least, width_small, width_ext}
use Rattle.layout.specs.Claims.{Fit}
use Rattle.modes.specs.declared.Mode.{Mode}
use Rattle.order.specs.Order.{ordered, values_of}
use Rattle.bodies.specs.Body.{filled, width_of, block}
use Rattle.bodies.specs.Reading.{width_at, size_at, entry_at, entries_at}
use Rattle.bodies.proofs.Tests.{Passed}

-- a block that passes is what is written for its entries

module _ (L : ℕ) (m : Mode) (k : ℕ) (bs : List ℕ) (p : Passed L m k bs) where
  filled_at : (i : ℕ) → i < block_size L → entry_at L bs i ≡ filled (entries_at L k bs) i
  filled_at i h = go (dec_lt i k)
    where
      go : Dec (i < k) → entry_at L bs i ≡ filled (entries_at L k bs) i
      go (yes lt) = sym (table_at (entry_at L bs) k i lt)
      go (no ge) =
          let z = of_fits (λ j. entry_at L bs (k + j)) (block_size L - k) 0 p.entries.filling (i - k) (omega arith) in
          let e : k + (i - k) ≡ i = omega arith in
          let y : entry_at L bs i < 1 = rw e at z in
          let x : entry_at L bs i ≡ 0 = omega arith in
          x ∙ sym (table_past (entry_at L bs) k i (omega arith))

  entry_small : (i : ℕ) → entry_at L bs i < 2 ^ 32
  entry_small i = lt_of_lt_of_le (entry_fits L (width_at bs) (drop 1 bs) i) (pow_mono p.frame.narrow)

  pub entries_small : Below (2 ^ 32) (entries_at L k bs)
  entries_small = below_table (entry_at L bs) k entry_small

  width_same : width_of L (entries_at L k bs) ≡ width_at bs
  width_same = width_ext (λ i h. entry_small i) filled_at ∙ sym p.entries.least

  payload_same : Below 256 bs → packed L (width_at bs) (filled (entries_at L k bs)) ≡ take (payload_size L (width_at bs)) (drop 1 bs)
  payload_same bytes =
      packed_ext L (width_at bs) (filled (entries_at L k bs)) (entry_at L bs) (λ i h. sym (filled_at i h))
      ∙ packed_entry L (width_at bs) (drop 1 bs) (simp length-drop (omega (arith, p.frame.whole))) (below_drop 1 bs bytes)

  pub block_written : Below 256 bs → bs ≡ block L (entries_at L k bs) ++ drop (size_at L bs) bs
  unfolding block
  block_written bytes = rw (width_same, payload_same bytes) (sym (block_split bs (payload_size L (width_at bs)) p.frame.some))
    where
      block_split : (xs : List ℕ) (n : ℕ) → 1 ≤ length xs → at xs 0 ∷ (take n (drop 1 xs) ++ drop (1 + n) xs) ≡ xs
      block_split [] n h = absurd (omega arith)
      block_split (x ∷ xs) n h = rw one-add (ap (λ (t : List ℕ). x ∷ t) (take-append-drop n xs))

  block_size_lem : length (block L (entries_at L k bs)) ≡ size_at L bs
  unfolding block
  block_size_lem = rw (length_packed L (width_of L (entries_at L k bs)) (filled (entries_at L k bs)), width_same) (omega arith)

  -- it, and the n bytes behind it
  pub front_written : Below 256 bs → (n : ℕ) → take (size_at L bs + n) bs ≡ block L (entries_at L k bs) ++ take n (drop (size_at L bs) bs)
  front_written bytes n =
      let first : List ℕ = block L (entries_at L k bs) in
      let rest : List ℕ = drop (size_at L bs) bs in
      ap (take (size_at L bs + n)) (block_written bytes) ∙ ap (λ (t : ℕ). take (t + n) (first ++ rest)) (sym block_size_lem) ∙ take-append-add first rest n

-- what is written passes, and its entries are had back, whatever stands behind it

module _ (L : ℕ) (es rest : List ℕ) (size : length es ≤ block_size L) (small : Below (2 ^ 32) es) where
  fit : Fit (filled es) (block_size L) 32
  fit i h = small i

  entry_back : (i : ℕ) → i < block_size L → entry_at L (block L es ++ rest) i ≡ filled es i
  unfolding block
  entry_back i h = entry_packed L (width_of L es) (filled es) rest (width_least (filled es) (block_size L) fit).fit i h

  pub entries_back : entries_at L (length es) (block L es ++ rest) ≡ es
  entries_back =
      table_ext (entry_at L (block L es ++ rest)) (filled es) (length es) (λ i h. entry_back i (omega arith))
      ∙ table_of (filled es) (length es) es refl (λ i h. refl)

  pub rest_back : drop (size_at L (block L es ++ rest)) (block L es ++ rest) ≡ rest
  unfolding block
  rest_back = rw one-add (drop_at (packed L (width_of L es) (filled es)) rest (payload_size L (width_of L es)) (length_packed L (width_of L es) (filled es)))

  pub written_passes : (m : Mode) → ordered m (values_of m es) ≡ true → Passed L m (length es) (block L es ++ rest)
  unfolding block
  written_passes m o =
      record {
        frame = record {
          some = omega arith;
          narrow = width_small (filled es) (block_size L) fit;
          whole = simp length-append (omega (arith, length_packed L (width_of L es) (filled es)));
        };
        entries = record {
          filling = fits_of _ (block_size L - length es) 0 (λ i h. rw (entry_back (length es + i) (omega arith), get_or-eq_default es 0 {n = length es + i} (omega arith)) (omega arith));
          least = sym (width_ext fit (λ i h. sym (entry_back i h)));
        };
        order = rw entries_back o;
      }

-- another list of bytes that begins with the same block
pub record Again (L : ℕ) (m : Mode) (k : ℕ) (bs others rest : List ℕ) : Type 0 where
  pub passes : Passed L m k others
  pub entries : entries_at L k others ≡ entries_at L k bs
  pub behind : drop (size_at L others) others ≡ rest

pub again : (L : ℕ) (m : Mode) (k : ℕ) (bs others rest : List ℕ) → k ≤ block_size L → Passed L m k bs → others ≡ block L (entries_at L k bs) ++ rest → Again L m k bs others rest
again L m k bs others rest size p is =
    let es : List ℕ = entries_at L k bs in
    let len : length es ≡ k = length_table (entry_at L bs) k in
    let fits : length es ≤ block_size L = omega arith in
    let small : Below (2 ^ 32) es = entries_small L m k bs p in
    rw is
    (record {
      passes = rw len at (written_passes L es rest fits small m p.order);
      entries = rw len at (entries_back L es rest fits small);
      behind = rest_back L es rest fits small;
    })
