-- Whole bodies: one is accepted exactly where it is what is written for its entries, and they are had back.
use mathlib.Core.Path.{◌≡◌, refl, sym, ◌∙◌, ap}
use mathlib.Core.Bool.{true, ◌&&◌}
use mathlib.Core.List.{List, [], ◌∷◌, ◌++◌, append-nil}
use Prim.Native.Nat.{ℕ, zero, suc, ◌+◌, ◌*◌, ◌-◌, ◌^◌, ◌≤◌, ◌<◌, min}
use native.Mathlib.Nat.{min-le_left, min-eq_left, min-eq_right, sub-add-min_cancel, min_comm, zero-mul, lt-div-mul-add}
use native.Mathlib.Numerals.{add-one}
use native.Mathlib.Omega.{arith}
use native.Mathlib.Decide.{dec_lt}
use borrow.Author.Tests.{ltb-false}
use lib.Dec.{ltb}
use lib.ListN.{length, take, drop, length-append, length-drop, length-take, take-append-drop, drop_of_length-le}
use lib.Seq.{take_at, drop_at, take_all}
use Rattle.layout.specs.Layout.{Below, block_size}
use Rattle.layout.proofs.Products.{one_more}
use Rattle.layout.proofs.Below.{below_none, below_append, below_take, below_drop}
use Rattle.layout.proofs.Tables.{length_table}
use Rattle.layout.proofs.Widths.{and_both}
use Rattle.modes.specs.declared.Mode.{Mode}
use Rattle.answers.specs.declared.Refusal.TheVariants.{LeftOver}
use Rattle.answers.specs.Refusals.{accept, accepted}
use Rattle.answers.proofs.Refusals.{passed, both}
use Rattle.order.specs.Order.{after_all, ordered, values_of}
use Rattle.order.proofs.Steps.{values_append, ordered_append}
use Rattle.bodies.specs.Body.{block, block_count, blocks_of}
use Rattle.bodies.specs.Reading.{size_at, entry_at, entries_at, values_at, block_refusal, refusal_from, entries_from}
use Rattle.bodies.proofs.Tests.{Passed, block_passed, block_passes}
use Rattle.bodies.proofs.Block.{entries_small, block_written, entries_back, rest_back, written_passes}

pub empty : (xs : List ℕ) → length xs ≤ 0 → xs ≡ []
empty [] h = refl
empty (x ∷ xs) h = absurd (omega arith)

-- a first part of n, or of all that there is, comes off again
pub front : (n : ℕ) (xs ys : List ℕ) (c : ℕ) → length xs ≡ min n c → length ys ≡ c - n → (take n (xs ++ ys) ≡ xs) × (drop n (xs ++ ys) ≡ ys)
front n xs ys c a b = go (dec_lt c n)
  where
    go : Dec (c < n) → (take n (xs ++ ys) ≡ xs) × (drop n (xs ++ ys) ≡ ys)
    go (no ge) =
        let e : length xs ≡ n = a ∙ min-eq_left (omega arith) in
        (take_at xs ys n e, drop_at xs ys n e)
    go (yes lt) =
        let e : length xs ≡ c = a ∙ min-eq_right (omega arith) in
        let z : ys ≡ [] = empty ys (omega arith) in
        rw (z, append-nil xs) (take_all n xs (omega arith), drop_of_length-le xs {i = n} (omega arith))

pub suc_times : (b n : ℕ) → suc b * n ≡ b * n + n
suc_times b n = rw (← add-one) (one_more b n)

-- what is accepted is written for its entries

pub record Written (L : ℕ) (m : Mode) (count : ℕ) (bs : List ℕ) (b : ℕ) (es : List ℕ) : Type 0 where
  pub body : bs ≡ blocks_of L es b
  pub size : length es ≡ count
  pub small : Below (2 ^ 32) es
  pub order : ordered m (values_of m es) ≡ true

pub sound : (b L : ℕ) (m : Mode) (count : ℕ) (bs : List ℕ) → count ≤ b * block_size L → Below 256 bs
    → accepted (refusal_from L m count bs b) ≡ true → Written L m count bs b (entries_from L count bs b)
unfolding refusal_from entries_from blocks_of values_of ordered
sound zero L m count bs few bytes h =
    let a = passed (ltb 0 (length bs)) LeftOver accept h in
    record { body = empty bs (ltb-false 0 (length bs) a.0); size = omega (arith, zero-mul (block_size L)); small = below_none (omega arith); order = refl }
sound (suc b) L m count bs few bytes h =
    let k : ℕ = min (block_size L) count in
    let o = both (block_refusal L m k bs) _ h in
    let p : Passed L m k bs = block_passed L m k bs o.0 in
    let es : List ℕ = entries_at L k bs in
    let len : length es ≡ k = length_table (entry_at L bs) k in
    let w : Below (2 ^ 32) es = entries_small L m k bs p in
    let rest : List ℕ = entries_from L (count - block_size L) (drop (size_at L bs) bs) b in
    let ih : Written L (after_all m (values_at L m k bs)) (count - block_size L) (drop (size_at L bs) bs) b rest =
    sound b L (after_all m (values_at L m k bs)) (count - block_size L) (drop (size_at L bs) bs) (omega (arith, suc_times b (block_size L)))
    (below_drop (size_at L bs) bs bytes) o.1 in
    let f = front (block_size L) es rest count len ih.size in
    record {
      body = rw (f.0, f.1) (block_written L m k bs p bytes ∙ ap (λ (t : List ℕ). block L es ++ t) ih.body);
      size = length-append es rest ∙ rw (len, ih.size) (omega (arith, sub-add-min_cancel count (block_size L), min_comm count (block_size L)));
      small = below_append es rest w ih.small;
      order = rw (values_append, ordered_append, p.order) ih.order;
    }

-- what is written is accepted, and the entries are had back

pub record Had (L : ℕ) (m : Mode) (count : ℕ) (bs : List ℕ) (b : ℕ) (es : List ℕ) : Type 0 where
  pub none : accepted (refusal_from L m count bs b) ≡ true
  pub list : entries_from L count bs b ≡ es

pub complete : (b L : ℕ) (m : Mode) (es : List ℕ) → length es ≤ b * block_size L → Below (2 ^ 32) es → ordered m (values_of m es) ≡ true → Had L m (length es) (blocks_of L es b) b es
unfolding refusal_from entries_from blocks_of
complete zero L m es few w o =
    let z : es ≡ [] = empty es (omega (arith, zero-mul (block_size L))) in
    record { none = refl; list = sym z }
complete (suc b) L m es few w o =
    let n : ℕ = block_size L in
    let xs : List ℕ = take n es in
    let ys : List ℕ = drop n es in
    let next : Mode = after_all m (values_of m xs) in
    let whole : xs ++ ys ≡ es = take-append-drop n es in
    let split : ordered m (values_of m xs) && ordered next (values_of next ys) ≡ true =
    sym (ordered_append m (values_of m xs) (values_of next ys)) ∙ ap (ordered m) (sym (values_append m xs ys) ∙ ap (values_of m) whole) ∙ o in
    let q = and_both (ordered m (values_of m xs)) (ordered next (values_of next ys)) split in
    let size : length xs ≡ min n (length es) = length-take n es in
    let fit : length xs ≤ n = omega (arith, min-le_left n (length es)) in
    let small : Below (2 ^ 32) xs = below_take n es w in
    let rest : List ℕ = blocks_of L ys b in
    let len : length ys ≡ length es - n = length-drop n es in
    let ih : Had L next (length ys) rest b ys = complete b L next ys (omega (arith, suc_times b (block_size L))) (below_drop n es w) q.1 in
    let p = block_passes L m (length xs) (block L xs ++ rest) (written_passes L xs rest fit small m q.0) in
    let e : entries_at L (length xs) (block L xs ++ rest) ≡ xs = entries_back L xs rest fit small in
    let d : drop (size_at L (block L xs ++ rest)) (block L xs ++ rest) ≡ rest = rest_back L xs rest fit small in
    record {
      none = rw (← size, p, e, d, ← len) ih.none;
      list = rw (← size, e, d, ← len) (ap (λ (t : List ℕ). xs ++ t) ih.list ∙ whole);
    }

-- ceil(count / B) blocks are enough
pub blocks_enough : (L count : ℕ) → 0 < L → count ≤ block_count L count * block_size L
unfolding block_count
blocks_enough L count pos = omega (arith, lt-div-mul-add {a = count + (32 * L - 1)} {b = 32 * L} (omega arith))
